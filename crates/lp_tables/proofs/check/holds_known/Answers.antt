use Rattle.std.proofs.Common.{◌≡◌, ◌∙◌, ℕ, length, ap, sym}
use Rattle.std.specs.List.{list_all}
use Rattle.std.proofs.lemmas.Bool.{false≢true}
use Rattle.lp_repr.specs.declared.lr1.Item.{Item}
use Rattle.lp_tables.specs.Ranges.{is_dot, is_reduction}
use Rattle.lp_tables.proofs.RangeTests.{items_in, reductions_in}
use Rattle.lp_tables.proofs.check.holds_known.Goals as goal

pub returns-then-items_in_range : goal.returns-then-items_in_range
returns-then-items_in_range c =
    let t = c.args.tables.now in
    let rules = t.rules.all.items in
    let s = c.args.state.now in
    let items : c.items_in_range.result ≡ list_all (λ (i : Item). is_dot rules i.production i.index) s.items = c.items_in_range.ensures ∙ ap (list_all (λ (i : Item). is_dot rules i.production i.index)) c.as_slice.ensures in
    let reductions : c.reductions_in_range.result ≡ list_all (is_reduction (length rules) t.terminals) s.reductions =
    c.reductions_in_range.ensures
    ∙ (ap (λ (n : ℕ). list_all (is_reduction n t.terminals) c.as_slice-then-items_in_range.result.now) (c.len.ensures ∙ t.rules.all.ok.0) ∙ ap (list_all (is_reduction (length rules) t.terminals)) c.as_slice-then-items_in_range.ensures) in
    let told = reductions_in (length rules) t.terminals s.reductions c.reductions_in_range.result reductions in
    (λ yes. record { items = (items_in rules s.items c.items_in_range.result items).0 c.if-items_in_range.true; reductions = told.0 yes }, λ h. told.1 h.reductions)

pub returns-else-items_in_range : goal.returns-else-items_in_range
returns-else-items_in_range c =
    let rules = c.args.tables.now.rules.all.items in
    let s = c.args.state.now in
    let items : c.items_in_range.result ≡ list_all (λ (i : Item). is_dot rules i.production i.index) s.items = c.items_in_range.ensures ∙ ap (list_all (λ (i : Item). is_dot rules i.production i.index)) c.as_slice.ensures in
    (λ yes. absurd (false≢true (sym c.if-items_in_range.false ∙ yes)), λ h. (items_in rules s.items c.items_in_range.result items).1 h.items)
