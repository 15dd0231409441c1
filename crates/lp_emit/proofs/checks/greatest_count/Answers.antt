use Rattle.std.proofs.Common.{◌∙◌, ap}
use Rattle.std.proofs.lemmas.List.{take_all}
use Rattle.lp_emitted.specs.Emittable.{greatest_of}
use Rattle.lp_emit.proofs.checks.greatest_count.Goals as goal

pub returns : goal.returns
returns c = c.loop-list.invariant ∙ ap (greatest_of c.args.number) (take_all c.loop-list.list-index c.args.states.now c.loop-list-test.false)
