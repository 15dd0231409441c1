use Rattle.lp_types.specs.Types.{full_type}
use Rattle.lp_types.proofs.reader.Reader.full_type.Goals as goal

pub returns : goal.returns
unfolding full_type
returns c = c.ty.ensures
