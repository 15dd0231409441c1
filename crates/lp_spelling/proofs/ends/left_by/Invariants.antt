use Rattle.std.proofs.Common.{◌≡◌, ◌≤◌, map, drop}
use Rattle.lp_form.specs.Templates.{piece}
use Rattle.lp_spelling.specs.HoleEnds.{left_by}
use Rattle.lp_spelling.proofs.ends.left_by.Given as goal

abbrev pub invariant-loop-part : goal.invariant-loop-part
invariant-loop-part l = record {
  value : left_by l.prefix l.known (map piece (drop l.part-index l.parts)) l.rest ≡ left_by l.prefix l.known (map piece l.parts) l.n;
  bound : l.rest ≤ l.n;
}
