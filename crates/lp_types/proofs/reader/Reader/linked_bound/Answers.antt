use Rattle.std.proofs.Common.{refl}
use Rattle.lp_types.specs.Clauses.{linked_bound}
use Rattle.lp_types.proofs.Steps.{read_then, part_fails}
use Rattle.lp_types.proofs.reader.Reader.linked_bound.Goals as goal

pub returns-in_err-bound : goal.returns-in_err-bound
unfolding linked_bound
returns-in_err-bound c = part_fails _ _ _ _ _ _ _ c.in_err-bound.ensures c.from_residual.ensures.1 refl

pub returns : goal.returns
unfolding linked_bound
returns c = read_then _ _ _ _ _ c.in_ok-bound.ensures (read_then _ _ _ _ _ c.passes-more.ensures refl)
