use Rattle.std.proofs.Common.{◌≡◌, ℕ, refl, subst, arith, length, IsTrue, ◌≤◌, Some, slice_get, below_more}
use Rattle.std.proofs.lemmas.Option.{slice_get_read}
use Rattle.lp_tables.specs.ItemSets.{has}
use Rattle.lp_tables.specs.Opening.{IsOpenedAt}
use Rattle.lp_tables.proofs.Closures.{begin_here, begin_fails, begin_all}
use Rattle.lp_tables.proofs.Lists.{not_so}
use Rattle.lp_tables.proofs.opened.all_begin.Goals as goal

pub returns-then-not-stands_if_marked : goal.returns-then-not-stands_if_marked
returns-then-not-stands_if_marked c =
    let rules = c.args.rules.now.all.items in
    let r = c.rule-item.result in
    let at : slice_get rules c.loop-production.production ≡ Some r = subst (λ xs. slice_get xs c.loop-production.production ≡ Some r) c.deref-rule-items.ensures.value (slice_get_read c.deref-rule-items.result.now _ c.loop-production.production r refl (omega arith) c.rule-item.is) in
    begin_fails rules c.args.marks.now (λ (k : ℕ). IsTrue (has c.args.set.now k 0)) c.loop-production.production r at (not_so c.stands_if_marked.result c.stands_if_marked.ensures c.if-not-stands_if_marked.true)

pub loop-production-preserved : goal.loop-production-preserved
loop-production-preserved c =
    let rules = c.args.rules.now.all.items in
    let r = c.rule-item.result in
    let at : slice_get rules c.loop-production.production ≡ Some r = subst (λ xs. slice_get xs c.loop-production.production ≡ Some r) c.deref-rule-items.ensures.value (slice_get_read c.deref-rule-items.result.now _ c.loop-production.production r refl (omega arith) c.rule-item.is) in
    below_more (λ (k : ℕ). IsOpenedAt rules c.args.marks.now k → IsTrue (has c.args.set.now k 0)) c.loop-production.production c.loop-production.invariant
    (begin_here rules c.args.marks.now (λ (k : ℕ). IsTrue (has c.args.set.now k 0)) c.loop-production.production r at (c.stands_if_marked.ensures.0 c.if-not-stands_if_marked.false))

pub returns : goal.returns
returns c =
    let rules = c.args.rules.now.all.items in
    let past : length rules ≤ c.loop-production.production = subst (λ xs. length xs ≤ c.loop-production.production) c.deref-rule-items.ensures.value c.loop-production-test.false in
    begin_all rules c.args.marks.now (λ (k : ℕ). IsTrue (has c.args.set.now k 0)) c.loop-production.production past c.loop-production.invariant
