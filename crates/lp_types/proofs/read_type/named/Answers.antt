use Rattle.std.proofs.Common.{sym, ap, ◌∙◌}
use Rattle.lp_repr.specs.TypeTrees.{types_trees}
use Rattle.lp_repr.proofs.TreeRows.{nominal_treed, object_treed}
use Rattle.lp_types.specs.Types.{named_tree}
use Rattle.lp_types.proofs.read_type.named.Goals as goal

pub returns-then-object : goal.returns-then-object
returns-then-object c =
    object_treed (record { path = c.args.path; types = c.args.types })
    ∙ ap (λ b. named_tree b c.args.path (types_trees c.args.types.items)) (sym c.if-object.true)

pub returns-else-object : goal.returns-else-object
returns-else-object c =
    nominal_treed (record { path = c.args.path; types = c.args.types })
    ∙ ap (λ b. named_tree b c.args.path (types_trees c.args.types.items)) (sym c.if-object.false)
