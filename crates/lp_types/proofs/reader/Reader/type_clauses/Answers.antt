use Rattle.std.proofs.Common.{refl}
use Rattle.lp_types.specs.Clauses.{type_clauses}
use Rattle.lp_types.proofs.Steps.{read_then, part_fails, answers_as}
use Rattle.lp_types.proofs.reader.Reader.type_clauses.Goals as goal

pub returns-in_err-subject : goal.returns-in_err-subject
unfolding type_clauses
returns-in_err-subject c = part_fails _ _ _ _ _ _ _ c.in_err-subject.ensures c.from_residual.ensures.1 refl

pub returns : goal.returns
unfolding type_clauses
returns c = answers_as _ _ _ _ _ c.subject_clauses.ensures (read_then _ _ _ _ _ c.in_ok-subject.ensures refl)
