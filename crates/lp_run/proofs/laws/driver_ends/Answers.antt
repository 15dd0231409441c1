use Rattle.lp_run.proofs.DriverEnds as proved
use Rattle.lp_run.proofs.laws.driver_ends.Goals as goal

pub returns : goal.returns
returns c = proved.driver_ends
