use Rattle.std.proofs.Common.{false, ap}
use Rattle.lp_lower.specs.Actions.{lookaround}
use Rattle.lp_lower.proofs.ActionTrees.{tree}
use Rattle.lp_lower.proofs.actions.lookaround_action.Goals as goal

pub returns : goal.returns
returns c = ap (λ t. tree false t (lookaround c.args.which)) c.in_ok-ret_type.ensures
