use Rattle.std.proofs.Common.{map, ap, ◌∙◌}
use Rattle.std.specs.BTreeMap.{insert_entry}
use Rattle.lp_repr.specs.NameOrder.{terminal_cmp}
use Rattle.lp_repr.specs.TypeTrees.{type_tree}
use Rattle.lp_lower.specs.Lowering.{type_entry}
use Rattle.lp_lower.specs.TypeOf.{holes_tree}
use Rattle.lp_lower.proofs.tables.put_declared_type.Goals as goal

pub returns : goal.returns
returns c =
    let old = map type_entry c.args.types.now.entries in
    let t = c.args.terminal.now in
    c.in_ok-put_type.ensures
    ∙ (ap (λ k. insert_entry terminal_cmp old k (type_tree c.in_ok-ty.ty)) c.in_ok-name.ensures
    ∙ ap (insert_entry terminal_cmp old t.name) (c.in_ok-ty.ensures ∙ ap (holes_tree c.args.plain.now.token) c.as_slice-holes.ensures))
