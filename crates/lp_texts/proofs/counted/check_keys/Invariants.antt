use Rattle.std.specs.BTreeMap.{keys}
use Rattle.lp_texts.proofs.Counting.{CountedUpTo}
use Rattle.lp_texts.proofs.counted.check_keys.Given as goal

abbrev pub invariant-loop-thing : goal.invariant-loop-thing
invariant-loop-thing g l = CountedUpTo l.kind g.R.Rule.answers (keys l.map) l.thing-iterator l.from l.number
