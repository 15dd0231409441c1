use Rattle.std.proofs.Common.{cond, not, map, sym, ap, ◌∙◌}
use Rattle.std.specs.BTreeMap.{insert_entry}
use Rattle.lp_repr.specs.NameOrder.{nonterminal_cmp}
use Rattle.lp_repr.specs.TypeTrees.{type_tree}
use Rattle.lp_lower.specs.Lowering.{type_entry}
use Rattle.lp_lower.proofs.tables.put_rule_type.Goals as goal

pub returns-then-rule : goal.returns-then-rule
returns-then-rule c =
    let r = c.args.rule.now in
    let old = map type_entry c.args.types.now.entries in
    ap (λ b. cond (not b) (insert_entry nonterminal_cmp old r.name (type_tree r.ty)) old) (sym c.if-rule.true)

pub returns : goal.returns
returns c =
    let r = c.args.rule.now in
    let old = map type_entry c.args.types.now.entries in
    c.in_ok-put_type.ensures
    ∙ (ap (λ k. insert_entry nonterminal_cmp old k (type_tree c.in_ok-ty.ty)) c.in_ok-name.ensures
    ∙ (ap (insert_entry nonterminal_cmp old r.name) c.in_ok-ty.ensures.cases ∙ ap (λ b. cond (not b) (insert_entry nonterminal_cmp old r.name (type_tree r.ty)) old) (sym c.if-rule.false)))
