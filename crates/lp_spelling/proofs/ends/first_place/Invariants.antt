use Rattle.std.proofs.Common.{◌≡◌, ◌+◌, drop, map}
use Rattle.lp_form.specs.Templates.{piece}
use Rattle.lp_spelling.specs.HoleEnds.{first_at, goes_on}
use Rattle.lp_spelling.proofs.ends.first_place.Given as goal

abbrev pub invariant-loop-i : goal.invariant-loop-i
invariant-loop-i l = l.i + first_at (goes_on l.prefix (map piece l.parts)) (drop l.i l.text) ≡ first_at (goes_on l.prefix (map piece l.parts)) l.text
