use Rattle.std.proofs.Common.{refl}
use Rattle.lp_types.specs.Clauses.{subject_clauses}
use Rattle.lp_types.proofs.Steps.{read_then, part_fails, answers_as}
use Rattle.lp_types.proofs.reader.Reader.subject_clauses.Goals as goal

pub returns-in_err-expect : goal.returns-in_err-expect
unfolding subject_clauses
returns-in_err-expect c = part_fails _ _ _ _ _ _ _ c.in_err-expect.ensures c.from_residual.ensures.1 refl

pub returns : goal.returns
unfolding subject_clauses
returns c = answers_as _ _ _ _ _ c.bound_clauses.ensures (read_then _ _ _ _ _ c.in_ok-expect.ensures refl)
