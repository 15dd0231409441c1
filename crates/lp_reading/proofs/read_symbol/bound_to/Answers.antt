use Rattle.std.proofs.Common.{refl}
use Rattle.lp_reading.specs.Symbols.{bound_to}
use Rattle.lp_types.proofs.Steps.{part_fails, read_then}
use Rattle.lp_reading.proofs.read_symbol.bound_to.Goals as goal

pub returns-in_err-kind : goal.returns-in_err-kind
unfolding bound_to
returns-in_err-kind c = part_fails _ _ _ _ _ _ _ c.in_err-kind.ensures c.from_residual.ensures.1 (read_then _ _ _ _ _ c.next_place-place.ensures refl)

pub returns : goal.returns
unfolding bound_to
returns c = read_then _ _ _ _ _ c.next_place-place.ensures (read_then _ _ _ _ _ c.in_ok-kind.ensures refl)
