use Rattle.std.proofs.Common.{◌≡◌, ◌+◌, ◌≤◌, map, drop}
use Rattle.lp_form.specs.Templates.{piece}
use Rattle.lp_spelling.specs.HoleEnds.{times}
use Rattle.lp_spelling.proofs.ends.times.Given as goal

abbrev pub invariant-loop-part : goal.invariant-loop-part
invariant-loop-part l = record {
  value : l.count + times l.k (map piece (drop l.part-index l.parts)) ≡ times l.k (map piece l.parts);
  bound : l.count ≤ l.part-index;
}
