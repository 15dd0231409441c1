use Rattle.std.proofs.Common.{arith, ap, ◌∙◌}
use Rattle.lp_types.specs.Reading.{Read}
use Rattle.lp_types.specs.Left.{left}
use Rattle.lp_types.specs.Names.{type_parameters}
use Rattle.lp_types.proofs.Lists.{begun, one_more, ended, broke, ran_out}
use Rattle.lp_types.proofs.Steps.{handed_on, no_memory, fails_here}
use Rattle.lp_types.proofs.reader.Reader.type_parameters.Goals as goal

pub loop-turn-init : goal.loop-turn-init
loop-turn-init c = begun _ _ _ _ c.new-parameters.ensures.items c.turns-turn-end.ensures

pub returns-in_err-next_type_parameter : goal.returns-in_err-next_type_parameter
unfolding type_parameters
returns-in_err-next_type_parameter c = handed_on _ _ _ _ _ (broke _ _ _ _ _ _ _ c.loop-turn.invariant (omega arith) c.in_err-next_type_parameter.ensures) c.from_residual.ensures.1

pub returns-in-None : goal.returns-in-None
unfolding type_parameters
returns-in-None c = ended _ _ _ _ _ _ _ c.loop-turn.invariant (omega arith) (c.in_ok-next_type_parameter.ensures ∙ ap (λ o. Read o (left c.next_type_parameter.new.self)) c.in-None.is)

pub returns-in_err-push-in-Some : goal.returns-in_err-push-in-Some
returns-in_err-push-in-Some c = no_memory _ _ _ _ c.from_residual-in_err-push-in-Some.ensures.1

pub loop-turn-preserved : goal.loop-turn-preserved
loop-turn-preserved c = one_more _ _ _ _ _ _ _ _ c.in-Some.parameter c.loop-turn.invariant (omega arith) (c.in_ok-next_type_parameter.ensures ∙ ap (λ o. Read o (left c.next_type_parameter.new.self)) c.in-Some.is) c.in_ok-push-in-Some.ensures.items

pub returns : goal.returns
unfolding type_parameters
returns c = fails_here _ _ _ c.error.ensures (ran_out _ _ _ _ _ _ c.loop-turn.invariant (omega arith))
