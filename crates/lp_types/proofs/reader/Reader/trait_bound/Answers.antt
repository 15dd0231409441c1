use Rattle.std.proofs.Common.{refl}
use Rattle.lp_types.specs.Bounds.{trait_bound}
use Rattle.lp_types.proofs.Steps.{read_then, part_fails}
use Rattle.lp_types.proofs.reader.Reader.trait_bound.Goals as goal

pub returns-in_err-parameters : goal.returns-in_err-parameters
unfolding trait_bound
returns-in_err-parameters c = part_fails _ _ _ _ _ _ _ c.in_err-parameters.ensures c.from_residual.ensures.1 refl

pub returns : goal.returns
unfolding trait_bound
returns c = read_then _ _ _ _ _ c.in_ok-parameters.ensures refl
