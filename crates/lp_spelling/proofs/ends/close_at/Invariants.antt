use Rattle.std.proofs.Common.{◌≡◌, ◌+◌, ◌≤◌, drop}
use Rattle.lp_spelling.specs.HoleEnds.{close_at}
use Rattle.lp_spelling.proofs.ends.close_at.Given as goal

abbrev pub invariant-loop-i : goal.invariant-loop-i
invariant-loop-i l = record {
  value : l.i + close_at l.depth (drop l.i l.text) ≡ close_at 0 l.text;
  bound : l.depth ≤ l.i;
}
