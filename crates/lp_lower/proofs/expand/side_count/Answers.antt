use Rattle.std.proofs.Common.{◌≡◌, length, ap, arith}
use Rattle.lp_lower.specs.Extents.{capped, extent_of}
use Rattle.lp_lower.specs.RightSides.{inline_sides, right_sides}
use Rattle.lp_lower.specs.declared.extents.Extent.{Extent}
use Rattle.lp_lower.proofs.expand.side_count.Goals as goal

pub returns : goal.returns
unfolding extent_of
returns c =
    let g = c.args.names.now.plain.now in
    let sides : c.alternative_extent-extent.result.alternatives ≡ capped (length (right_sides g (inline_sides g) c.args.alternative.now)) =
    ap (λ (x : Extent). x.alternatives) (c.alternative_extent-extent.ensures (inline_sides g) c.requires)
    in
    omega (arith, sides)
