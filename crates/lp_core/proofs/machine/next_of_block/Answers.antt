use Rattle.lp_core.proofs.Frames.{next_block}
use Rattle.lp_core.proofs.Less.{next_block_less}
use Rattle.lp_core.proofs.machine.next_of_block.Goals as goal

pub returns-in_ok-push-in-Some-clause-same : goal.returns-in_ok-push-in-Some-clause-same
returns-in_ok-push-in-Some-clause-same c = λ p st. next_block p c.args.frames.now.items c.push.new.self.items c.args.value c.in-Some.others c.args.es.now c.in-Some.e.now st c.in-Some.ensures c.in_ok-push-in-Some.ensures.items

pub returns-in_ok-push-in-Some-clause-smaller : goal.returns-in_ok-push-in-Some-clause-smaller
returns-in_ok-push-in-Some-clause-smaller c = next_block_less c.args.frames.now.items c.push.new.self.items c.in-Some.others c.args.es.now c.in-Some.e.now c.in-Some.ensures c.in_ok-push-in-Some.ensures.items
