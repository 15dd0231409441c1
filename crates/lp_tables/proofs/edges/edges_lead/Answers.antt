use Rattle.std.proofs.Common.{◌↔◌, ◌∙◌, sym, subst, IsTrue}
use Rattle.std.specs.List.{AllByRecursion}
use Rattle.std.proofs.lemmas.Bool.{false≢true}
use Rattle.lp_repr.specs.declared.lr1.Item.{Item}
use Rattle.lp_tables.specs.Edges.{GoesOn}
use Rattle.lp_tables.proofs.Targets.{leads, lead_comes}
use Rattle.lp_tables.proofs.edges.edges_lead.Goals as goal

pub returns-then-all_come : goal.returns-then-all_come
returns-then-all_come c =
    let t = c.args.tables.now in
    let rules = t.rules.all.items in
    let s = c.args.state.now in
    let edges = c.args.edges.now in
    let go : IsTrue c.all_go_on.result ↔ AllByRecursion (λ (i : Item). GoesOn rules t.states.now c.args.kind edges i.production i.index) s.items = subst (λ xs. IsTrue c.all_go_on.result ↔ AllByRecursion (λ (i : Item). GoesOn rules t.states.now c.args.kind edges i.production i.index) xs) c.as_slice.ensures c.all_go_on.ensures in
    leads rules t.states.now s c.args.set.now c.args.kind edges c.requires.this c.all_go_on.result (c.all_come.ensures.0 c.if-all_come.true) go

pub returns-else-all_come : goal.returns-else-all_come
returns-else-all_come c =
    let t = c.args.tables.now in
    (λ yes. absurd (false≢true (sym c.if-all_come.false ∙ yes)), λ h. c.all_come.ensures.1 (lead_comes t.rules.all.items t.states.now c.args.state.now c.args.set.now c.args.kind c.args.edges.now c.requires.this h))
