use Rattle.std.proofs.Common.{◌∙◌}
use Rattle.lp_parts.proofs.VariantPlaces.{places}
use Rattle.lp_parts.proofs.variants.place_of.Goals as goal

pub returns : goal.returns
returns c = c.place_in.ensures ∙ places c.args.types.now c.args.ty.now
