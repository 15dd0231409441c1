use Rattle.std.proofs.Common.{◌≡◌, ◌≤◌, length, map}
use Rattle.lp_form.specs.Templates.{piece}
use Rattle.lp_spelling.specs.HoleEnds.{last_at, goes_on}
use Rattle.lp_spelling.proofs.HoleSteps.{last_from}
use Rattle.lp_spelling.proofs.ends.last_place.Given as goal

abbrev pub invariant-loop-i : goal.invariant-loop-i
invariant-loop-i l = record {
  value : last_from (goes_on l.prefix (map piece l.parts)) l.text l.i l.last ≡ last_at (goes_on l.prefix (map piece l.parts)) l.text;
  bound : l.last ≤ length l.text;
}
