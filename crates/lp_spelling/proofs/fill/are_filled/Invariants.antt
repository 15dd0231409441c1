use Rattle.std.proofs.Common.{◌≡◌, drop}
use Rattle.lp_spelling.specs.Fillings.{fits_behind}
use Rattle.lp_spelling.proofs.fill.are_filled.Given as goal

abbrev pub invariant-loop-i : goal.invariant-loop-i
invariant-loop-i l = fits_behind l.prefix l.last (drop l.i l.text) ≡ fits_behind l.prefix 0 l.text
