use Rattle.std.proofs.Common.{refl}
use Rattle.lp_types.specs.Clauses.{linked_clause}
use Rattle.lp_types.proofs.Steps.{read_then, part_fails}
use Rattle.lp_types.proofs.reader.Reader.linked_clause.Goals as goal

pub returns-in_err-found : goal.returns-in_err-found
unfolding linked_clause
returns-in_err-found c = part_fails _ _ _ _ _ _ _ c.in_err-found.ensures c.from_residual.ensures.1 refl

pub returns : goal.returns
unfolding linked_clause
returns c = read_then _ _ _ _ _ c.in_ok-found.ensures (read_then _ _ _ _ _ c.more_clauses-more.ensures refl)
