use Rattle.lp_plain.proofs.Faults.{unlowered_fault}
use Rattle.lp_plain.proofs.source.lowered_of.Goals as goal

pub returns-in-Err-clause-fault : goal.returns-in-Err-clause-fault
returns-in-Err-clause-fault c = unlowered_fault c.args.bytes.now c.in_ok-plain.plain c.in-Err.fault c.unlowered.result c.in_ok-plain.ensures.spelled c.in-Err.ensures.refused c.unlowered.ensures
