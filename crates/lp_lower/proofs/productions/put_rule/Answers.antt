use Rattle.std.proofs.Common.{cond, [], ◌∷◌, sym, ap, ◌∙◌}
use Rattle.std.specs.BTreeMap.{insert_entry}
use Rattle.lp_repr.specs.NameOrder.{nonterminal_cmp}
use Rattle.lp_lower.specs.Productions.{put_all, rule_data}
use Rattle.lp_lower.proofs.productions.put_rule.Goals as goal

pub returns-then-rule : goal.returns-then-rule
returns-then-rule c =
    let r = c.args.rule.now in
    let d = rule_data c.args.names.now.plain.now c.args.sources.now c.args.first r in
    ap (λ b. put_all nonterminal_cmp c.args.all.now.entries (cond b [] ((r.name, d) ∷ []))) (sym c.if-rule.true)

pub returns : goal.returns
returns c =
    let r = c.args.rule.now in
    let old = c.args.all.now.entries in
    let d = rule_data c.args.names.now.plain.now c.args.sources.now c.args.first r in
    c.in_ok-insert.ensures.entries
    ∙ (ap (λ k. insert_entry nonterminal_cmp old k c.in_ok-data.data) c.in_ok-name.ensures
    ∙ (ap (insert_entry nonterminal_cmp old r.name) c.in_ok-data.ensures ∙ ap (λ b. put_all nonterminal_cmp old (cond b [] ((r.name, d) ∷ []))) (sym c.if-rule.false)))
