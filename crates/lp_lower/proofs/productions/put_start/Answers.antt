use Rattle.std.proofs.Common.{cond, [], ◌∷◌, sym, ap, ◌∙◌}
use Rattle.std.specs.BTreeMap.{insert_entry}
use Rattle.lp_repr.specs.NameOrder.{nonterminal_cmp}
use Rattle.lp_lower.specs.Productions.{put_all, start_name, start_data}
use Rattle.lp_lower.proofs.productions.put_start.Goals as goal

pub returns-in_ok-insert : goal.returns-in_ok-insert
returns-in_ok-insert c =
    let old = c.args.all.now.entries in
    let n = start_name c.args.plain.now c.args.rule.now in
    let d = start_data c.args.plain.now c.args.action c.args.rule.now in
    c.in_ok-insert.ensures.entries
    ∙ (ap (λ k. insert_entry nonterminal_cmp old k c.in_ok-data.data) c.in_ok-name.ensures
    ∙ (ap (insert_entry nonterminal_cmp old n) c.in_ok-data.ensures ∙ ap (λ b. put_all nonterminal_cmp old (cond b ((n, d) ∷ []) [])) (sym c.if-rule.true)))

pub returns-else-rule : goal.returns-else-rule
returns-else-rule c =
    let n = start_name c.args.plain.now c.args.rule.now in
    let d = start_data c.args.plain.now c.args.action c.args.rule.now in
    ap (λ b. put_all nonterminal_cmp c.args.all.now.entries (cond b ((n, d) ∷ []) [])) (sym c.if-rule.false)
