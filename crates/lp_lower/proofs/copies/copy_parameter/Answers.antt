use Rattle.lp_lower.proofs.Pairs.{pair_alike}
use Rattle.lp_lower.proofs.copies.copy_parameter.Goals as goal

pub returns : goal.returns
returns c = pair_alike _ _ _ _ c.in_ok-name.ensures.cases c.in_ok-ty.ensures.cases
