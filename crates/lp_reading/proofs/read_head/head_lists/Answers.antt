use Rattle.std.proofs.Common.{refl}
use Rattle.lp_reading.specs.Heads.{lists}
use Rattle.lp_types.proofs.Steps.{part_fails, read_then}
use Rattle.lp_reading.proofs.read_head.head_lists.Goals as goal

pub returns-in_err-expect : goal.returns-in_err-expect
unfolding lists
returns-in_err-expect c = part_fails _ _ _ _ _ _ _ c.in_err-expect.ensures c.from_residual.ensures.1 refl

pub returns-in_err-type_parameters : goal.returns-in_err-type_parameters
unfolding lists
returns-in_err-type_parameters c = part_fails _ _ _ _ _ _ _ c.in_err-type_parameters.ensures c.from_residual-in_err-type_parameters.ensures.1 (read_then _ _ _ _ _ c.in_ok-expect.ensures refl)

pub returns-in_err-parameters : goal.returns-in_err-parameters
unfolding lists
returns-in_err-parameters c = part_fails _ _ _ _ _ _ _ c.in_err-parameters.ensures c.from_residual-in_err-parameters.ensures.1 (read_then _ _ _ _ _ c.in_ok-expect.ensures (read_then _ _ _ _ _ c.in_ok-type_parameters.ensures refl))

pub returns-in_err-where_clauses : goal.returns-in_err-where_clauses
unfolding lists
returns-in_err-where_clauses c = part_fails _ _ _ _ _ _ _ c.in_err-where_clauses.ensures c.from_residual-in_err-where_clauses.ensures.1 (read_then _ _ _ _ _ c.in_ok-expect.ensures (read_then _ _ _ _ _ c.in_ok-type_parameters.ensures (read_then _ _ _ _ _ c.in_ok-parameters.ensures refl)))

pub returns-in_err-expect-2 : goal.returns-in_err-expect-2
unfolding lists
returns-in_err-expect-2 c = part_fails _ _ _ _ _ _ _ c.in_err-expect-2.ensures c.from_residual-in_err-expect-2.ensures.1 (read_then _ _ _ _ _ c.in_ok-expect.ensures (read_then _ _ _ _ _ c.in_ok-type_parameters.ensures (read_then _ _ _ _ _ c.in_ok-parameters.ensures (read_then _ _ _ _ _ c.in_ok-where_clauses.ensures refl))))

pub returns : goal.returns
unfolding lists
returns c = read_then _ _ _ _ _ c.in_ok-expect.ensures (read_then _ _ _ _ _ c.in_ok-type_parameters.ensures (read_then _ _ _ _ _ c.in_ok-parameters.ensures (read_then _ _ _ _ _ c.in_ok-where_clauses.ensures (read_then _ _ _ _ _ c.in_ok-expect-2.ensures refl))))
