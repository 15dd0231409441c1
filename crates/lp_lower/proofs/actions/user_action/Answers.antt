use Rattle.lp_lower.proofs.ActionTrees.{user_alike}
use Rattle.lp_lower.proofs.actions.user_action.Goals as goal

pub returns : goal.returns
returns c = user_alike c.args.alternative.now.fallible _ _ _ _ _ _ _ _ c.in_ok-ret_type.ensures.cases c.in_ok-arg_patterns.ensures c.in_ok-arg_types.ensures c.in_ok-code.ensures.cases
