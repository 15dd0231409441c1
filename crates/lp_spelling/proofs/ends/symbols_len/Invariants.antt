use Rattle.std.proofs.Common.{◌≡◌, ◌+◌, drop}
use Rattle.lp_spelling.specs.HoleEnds.{first_at, ends_symbols}
use Rattle.lp_spelling.proofs.ends.symbols_len.Given as goal

abbrev pub invariant-loop-i : goal.invariant-loop-i
invariant-loop-i l = l.i + first_at (ends_symbols l.prefix) (drop l.i l.text) ≡ first_at (ends_symbols l.prefix) l.text
