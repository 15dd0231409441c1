use Rattle.std.proofs.Common.{◌≡◌, map, drop}
use Rattle.lp_form.specs.Templates.{piece}
use Rattle.lp_spelling.specs.HoleEnds.{is_alone}
use Rattle.lp_spelling.proofs.ends.is_alone.Given as goal

abbrev pub invariant-loop-part : goal.invariant-loop-part
invariant-loop-part l = is_alone l.k (map piece (drop l.part-index l.parts)) ≡ is_alone l.k (map piece l.parts)
