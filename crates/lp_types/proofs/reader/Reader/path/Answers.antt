use Rattle.std.proofs.Common.{refl}
use Rattle.lp_types.specs.Names.{path}
use Rattle.lp_types.proofs.Steps.{read_then, part_fails}
use Rattle.lp_types.proofs.reader.Reader.path.Goals as goal

pub returns-in_err-ids : goal.returns-in_err-ids
unfolding path
returns-in_err-ids c = part_fails _ _ _ _ _ _ _ c.in_err-ids.ensures c.from_residual.ensures.1 (read_then _ _ _ _ _ c.passes-absolute.ensures refl)

pub returns : goal.returns
unfolding path
returns c = read_then _ _ _ _ _ c.passes-absolute.ensures (read_then _ _ _ _ _ c.in_ok-ids.ensures refl)
