use Rattle.lp_machine.proofs.RecoveryChoice.{moves_recover}
use Rattle.lp_machine.proofs.laws.recovery.Goals as goal

pub returns : goal.returns
returns c = moves_recover
