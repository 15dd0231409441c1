use Rattle.std.proofs.Common.{[], ◌∷◌, cond}
use Rattle.lp_repr.specs.declared.repr.Symbol.TheVariants.{Nonterminal}
use Rattle.lp_lower.specs.RightSides.{rule_sides, inline_sides}
use Rattle.lp_lower.proofs.extents.extent_with_start.Goals as goal

pub returns : goal.returns
returns c =
    let g = c.args.names.now.plain.now in
    let r = c.args.rule.now in
    c.plus.ensures (rule_sides g (inline_sides g) r) (cond r.public ((Nonterminal r.name ∷ []) ∷ []) []) (c.rule_extent.ensures (inline_sides g) c.requires) c.start_extent.ensures
