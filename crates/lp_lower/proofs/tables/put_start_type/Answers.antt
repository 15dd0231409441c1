use Rattle.std.proofs.Common.{cond, map, sym, ap, ◌∙◌}
use Rattle.std.specs.BTreeMap.{insert_entry}
use Rattle.lp_repr.specs.NameOrder.{nonterminal_cmp}
use Rattle.lp_repr.specs.TypeTrees.{type_tree}
use Rattle.lp_lower.specs.Lowering.{type_entry}
use Rattle.lp_lower.specs.Productions.{start_name}
use Rattle.lp_lower.proofs.tables.put_start_type.Goals as goal

pub returns-in_ok-put_type : goal.returns-in_ok-put_type
returns-in_ok-put_type c =
    let r = c.args.rule.now in
    let old = map type_entry c.args.types.now.entries in
    let start = start_name c.args.plain.now r in
    c.in_ok-put_type.ensures
    ∙ (ap (λ k. insert_entry nonterminal_cmp old k (type_tree c.in_ok-ty.ty)) c.in_ok-name.ensures
    ∙ (ap (insert_entry nonterminal_cmp old start) c.in_ok-ty.ensures.cases ∙ ap (λ b. cond b (insert_entry nonterminal_cmp old start (type_tree r.ty)) old) (sym c.if-rule.true)))

pub returns-else-rule : goal.returns-else-rule
returns-else-rule c =
    let r = c.args.rule.now in
    let old = map type_entry c.args.types.now.entries in
    ap (λ b. cond b (insert_entry nonterminal_cmp old (start_name c.args.plain.now r) (type_tree r.ty)) old) (sym c.if-rule.false)
