use Rattle.std.proofs.Common.{refl}
use Rattle.lp_reading.specs.Rules.{braced}
use Rattle.lp_types.proofs.Steps.{part_fails, read_then}
use Rattle.lp_reading.proofs.read_rule.braced.Goals as goal

pub returns-in_err-found : goal.returns-in_err-found
unfolding braced
returns-in_err-found c = part_fails _ _ _ _ _ _ _ c.in_err-found.ensures c.from_residual.ensures.1 refl

pub returns : goal.returns
unfolding braced
returns c = read_then _ _ _ _ _ c.in_ok-found.ensures (read_then _ _ _ _ _ c.passes-is_closed.ensures refl)
