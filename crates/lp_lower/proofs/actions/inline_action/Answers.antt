use Rattle.std.proofs.Common.{ap}
use Rattle.lp_lower.specs.Actions.{inline}
use Rattle.lp_lower.proofs.ActionTrees.{tree}
use Rattle.lp_lower.proofs.actions.inline_action.Goals as goal

pub returns : goal.returns
returns c = ap (λ t. tree c.args.combination.fallible t (inline c.args.user c.args.combination.inlined)) c.in_ok-ret_type.ensures.cases
