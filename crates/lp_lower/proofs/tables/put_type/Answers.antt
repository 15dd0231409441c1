use Rattle.std.proofs.Common.{map, ap, ◌∙◌}
use Rattle.lp_repr.specs.TypeTrees.{type_tree}
use Rattle.lp_lower.specs.Lowering.{type_entry}
use Rattle.lp_lower.proofs.Putting.{insert_entry-map}
use Rattle.lp_lower.proofs.tables.put_type.Goals as goal

pub returns : goal.returns
returns g c = ap (map type_entry) c.in_ok-insert.ensures.entries ∙ insert_entry-map g.K.Ord.cmp type_tree c.args.types.now.entries c.args.name c.args.ty
