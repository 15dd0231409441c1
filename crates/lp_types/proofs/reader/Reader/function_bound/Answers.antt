use Rattle.std.proofs.Common.{refl}
use Rattle.lp_types.specs.Bounds.{function_bound}
use Rattle.lp_types.specs.Types.{full_type}
use Rattle.lp_types.proofs.Steps.{read_then, part_fails}
use Rattle.lp_types.proofs.reader.Reader.function_bound.Goals as goal

pub returns-in_err-types : goal.returns-in_err-types
unfolding function_bound full_type
returns-in_err-types c = part_fails _ _ _ _ _ _ _ c.in_err-types.ensures c.from_residual.ensures.1 refl

pub returns-in_err-ret : goal.returns-in_err-ret
unfolding function_bound full_type
returns-in_err-ret c = part_fails _ _ _ _ _ _ _ c.in_err-ret.ensures c.from_residual-in_err-ret.ensures.1 (read_then _ _ _ _ _ c.in_ok-types.ensures refl)

pub returns : goal.returns
unfolding function_bound full_type
returns c = read_then _ _ _ _ _ c.in_ok-types.ensures (read_then _ _ _ _ _ c.in_ok-ret.ensures refl)
