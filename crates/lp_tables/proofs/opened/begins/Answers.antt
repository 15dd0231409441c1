use Rattle.std.proofs.Common.{◌≡◌, ◌↔◌, ◌∙◌, ◌==◌, false, length, sym, ap, subst, IsTrue}
use Rattle.std.specs.List.{list_all}
use Rattle.std.proofs.lemmas.Bool.{false≢true}
use Rattle.lp_repr.specs.ValidTables.{Begins}
use Rattle.lp_repr.specs.declared.lr1.Item.{Item}
use Rattle.lp_tables.specs.Opening.{AreOpened, BeginsOpened}
use Rattle.lp_tables.specs.Walk.{IsFresh}
use Rattle.lp_tables.proofs.Closures.{never_begins, some_dot, first_dots, begins_first, begins_by_marks}
use Rattle.lp_tables.proofs.Walks.{opened_from_marks}
use Rattle.lp_tables.proofs.opened.begins.Goals as goal

pub returns-in_default : goal.returns-in_default
returns-in_default c =
    let rules = c.args.rules.now.all.items in
    let s = c.args.state.now in
    (λ no. absurd (false≢true no), λ h. absurd (never_begins rules s (subst (λ o. Begins rules o s) c.in_default.is h)))

pub returns-then-not-have_dots_first : goal.returns-then-not-have_dots_first
returns-then-not-have_dots_first c =
    let rules = c.args.rules.now.all.items in
    let s = c.args.state.now in
    let none : list_all (λ (i : Item). i.index == 0) s.items ≡ false = sym (c.have_dots_first.ensures ∙ ap (list_all (λ (i : Item). i.index == 0)) c.as_slice-items.ensures) ∙ c.if-not-have_dots_first.true in
    (λ no. absurd (false≢true no), λ h. absurd (some_dot s.items none (begins_first rules c.in-Some.nonterminal s (subst (λ o. Begins rules o s) c.in-Some.is h))))

pub returns : goal.returns
returns c =
    let rules = c.args.rules.now.all.items in
    let firsts = c.args.rules.now.firsts in
    let s = c.args.state.now in
    let marks = c.in_ok-marks.marks.items in
    let fresh : IsFresh (length firsts.items) c.in_ok-opened.opened = subst (λ n. IsFresh n c.in_ok-opened.opened) (c.len.ensures ∙ firsts.ok.0) c.in_ok-opened.ensures in
    let told : IsTrue c.begins_opened.result ↔ BeginsOpened rules marks s.items = subst (λ xs. IsTrue c.begins_opened.result ↔ BeginsOpened rules marks xs) c.as_slice-items.ensures (subst (λ ms. IsTrue c.begins_opened.result ↔ BeginsOpened rules ms c.as_slice-items.result.now) c.as_slice.ensures.value c.begins_opened.ensures) in
    let all = sym (c.have_dots_first.ensures ∙ ap (list_all (λ (i : Item). i.index == 0)) c.as_slice-items.ensures) ∙ c.if-not-have_dots_first.false in
    let n = c.in-Some.nonterminal in
    let opened : AreOpened rules (λ k. k ≡ n) marks = opened_from_marks rules firsts.items (λ k. k ≡ n) c.in_ok-opened.opened c.open.new.self marks c.requires.index fresh c.in_ok-open.ensures.marks c.in_ok-marks.ensures in
    subst (λ o. IsTrue c.begins_opened.result ↔ Begins rules o s) (sym c.in-Some.is) (begins_by_marks rules n s marks c.begins_opened.result (first_dots s.items all) opened told)
