use Rattle.std.specs.BTreeMap.{values}
use Rattle.lp_texts.proofs.Counting.{CountedUpTo}
use Rattle.lp_texts.proofs.counted.check_values.Given as goal

abbrev pub invariant-loop-thing : goal.invariant-loop-thing
invariant-loop-thing g l = CountedUpTo l.kind g.R.Rule.answers (values l.map) l.thing-iterator l.from l.number
