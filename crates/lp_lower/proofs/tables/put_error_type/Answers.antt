use Rattle.std.proofs.Common.{cond, map, sym, ap, ◌∙◌}
use Rattle.std.specs.BTreeMap.{insert_entry}
use Rattle.lp_repr.specs.NameOrder.{terminal_cmp}
use Rattle.lp_repr.specs.declared.repr.TerminalString.TheVariants.{Error}
use Rattle.lp_lower.specs.Lowering.{type_entry}
use Rattle.lp_lower.specs.TypeOf.{recovery_tree}
use Rattle.lp_lower.proofs.tables.put_error_type.Goals as goal

pub returns-in_ok-put_type : goal.returns-in_ok-put_type
returns-in_ok-put_type c =
    let old = map type_entry c.args.types.now.entries in
    c.in_ok-put_type.ensures
    ∙ (ap (insert_entry terminal_cmp old Error) c.in_ok-ty.ensures ∙ ap (λ b. cond b (insert_entry terminal_cmp old Error (recovery_tree c.args.plain.now)) old) (sym c.if-used.true))

pub returns-else-used : goal.returns-else-used
returns-else-used c =
    let old = map type_entry c.args.types.now.entries in
    ap (λ b. cond b (insert_entry terminal_cmp old Error (recovery_tree c.args.plain.now)) old) (sym c.if-used.false)
