use Rattle.std.proofs.Common.{◌≡◌, ◌+◌, drop}
use Rattle.lp_spelling.specs.HoleEnds.{place}
use Rattle.lp_spelling.proofs.ends.place_in.Given as goal

abbrev pub invariant-loop-i : goal.invariant-loop-i
invariant-loop-i l = l.i + place l.sought (drop l.i l.text) ≡ place l.sought l.text
