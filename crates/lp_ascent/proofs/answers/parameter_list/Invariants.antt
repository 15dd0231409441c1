-- The texts so far.
use Rattle.std.proofs.Common.{◌≡◌, map, take}
use Rattle.std.specs.Map.Iter.{deref}
use Rattle.lp_repr.specs.Shown.{parameter_text}
use Rattle.lp_ascent.proofs.answers.parameter_list.Given as goal

abbrev pub invariant-loop-parameter : goal.invariant-loop-parameter
invariant-loop-parameter l = l.texts.items ≡ map parameter_text (map deref (take l.parameter-index l.parameters))
