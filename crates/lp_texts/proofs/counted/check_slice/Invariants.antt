use Rattle.std.proofs.Common.{take, Ok}
use Rattle.lp_texts.specs.Counted.{Counts}
use Rattle.lp_texts.proofs.counted.check_slice.Given as goal

abbrev pub invariant-loop-thing : goal.invariant-loop-thing
invariant-loop-thing g l = Counts l.kind g.R.Rule.answers (take l.thing-index l.things) l.from (Ok l.number)
