use Rattle.std.specs.Prelude.{false}
use Rattle.lp_repr.proofs.TreeRows.{nominal_treed}
use Rattle.lp_lower.proofs.types.nominal.Goals as goal

pub returns : goal.returns
returns c = nominal_treed (record { path = record { absolute = false; ids = c.args.ids }; types = c.args.types })
