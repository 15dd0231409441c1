use Rattle.lp_core.proofs.Longer.{call_is_longer}
use Rattle.lp_core.proofs.laws.more_steps.Goals as goal

pub returns : goal.returns
returns c = λ p d f vs st. call_is_longer d p f vs st
