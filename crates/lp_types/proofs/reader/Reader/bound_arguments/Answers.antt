use Rattle.std.proofs.Common.{arith, ap, ◌∙◌, map}
use Rattle.std.specs.Option.{option_map}
use Rattle.lp_repr.specs.TypeTrees.{bound_parameter_tree}
use Rattle.lp_types.specs.Bounds.{bound_arguments}
use Rattle.lp_types.specs.Left.{left}
use Rattle.lp_types.specs.Reading.{Read}
use Rattle.lp_types.proofs.Lists.{begun, one_more_seen, ended, broke, ran_out}
use Rattle.lp_types.proofs.Steps.{handed_on, no_memory, fails_here}
use Rattle.lp_types.proofs.reader.Reader.bound_arguments.Goals as goal

pub loop-turn-init : goal.loop-turn-init
loop-turn-init c = begun _ _ _ _ (ap (map bound_parameter_tree) c.new-arguments.ensures.items) c.turns-turn-end.ensures

pub returns-in_err-next_argument : goal.returns-in_err-next_argument
unfolding bound_arguments
returns-in_err-next_argument c = handed_on _ _ _ _ _ (broke _ _ _ _ _ _ _ c.loop-turn.invariant (omega arith) c.in_err-next_argument.ensures) c.from_residual.ensures.1

pub returns-in-None : goal.returns-in-None
unfolding bound_arguments
returns-in-None c = ended _ _ _ _ _ _ _ c.loop-turn.invariant (omega arith) (c.in_ok-next_argument.ensures ∙ ap (λ o. Read (option_map bound_parameter_tree o) (left c.next_argument.new.self)) c.in-None.is)

pub returns-in_err-push-in-Some : goal.returns-in_err-push-in-Some
returns-in_err-push-in-Some c = no_memory _ _ _ _ c.from_residual-in_err-push-in-Some.ensures.1

pub loop-turn-preserved : goal.loop-turn-preserved
loop-turn-preserved c = one_more_seen bound_parameter_tree _ _ _ _ _ _ _ _ c.in-Some.argument _ c.loop-turn.invariant (omega arith) c.in_ok-next_argument.ensures c.in-Some.is c.in_ok-push-in-Some.ensures.items

pub returns : goal.returns
unfolding bound_arguments
returns c = fails_here _ _ _ c.error.ensures (ran_out _ _ _ _ _ _ c.loop-turn.invariant (omega arith))
