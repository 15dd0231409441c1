use Rattle.lp_states.proofs.Results.{err_is}
use Rattle.lp_states.proofs.builder.build_states.Goals as goal

pub returns-in_err-fault-in-Err-clause-fault : goal.returns-in_err-fault-in-Err-clause-fault
returns-in_err-fault-in-Err-clause-fault c =
    err_is c.from_residual-in_err-fault-in-Err.result _ _ c.from_residual-in_err-fault-in-Err.ensures.1 (λ fault same. rw same tt)
