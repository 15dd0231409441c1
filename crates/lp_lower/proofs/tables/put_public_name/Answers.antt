use Rattle.std.proofs.Common.{cond, sym, ap, ◌∙◌}
use Rattle.std.specs.BTreeMap.{insert_entry}
use Rattle.lp_repr.specs.NameOrder.{nonterminal_cmp}
use Rattle.lp_lower.specs.Productions.{start_name}
use Rattle.lp_lower.proofs.tables.put_public_name.Goals as goal

pub returns-in_ok-insert : goal.returns-in_ok-insert
returns-in_ok-insert c =
    let r = c.args.rule.now in
    let old = c.args.names.now.entries in
    let start = start_name c.args.plain.now r in
    c.in_ok-insert.ensures.entries
    ∙ (ap (λ k. insert_entry nonterminal_cmp old k c.in_ok-start.start) c.in_ok-name.ensures
    ∙ (ap (insert_entry nonterminal_cmp old r.name) c.in_ok-start.ensures ∙ ap (λ b. cond b (insert_entry nonterminal_cmp old r.name start) old) (sym c.if-rule.true)))

pub returns-else-rule : goal.returns-else-rule
returns-else-rule c =
    let r = c.args.rule.now in
    let old = c.args.names.now.entries in
    ap (λ b. cond b (insert_entry nonterminal_cmp old r.name (start_name c.args.plain.now r)) old) (sym c.if-rule.false)
