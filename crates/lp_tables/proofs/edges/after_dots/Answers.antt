use Rattle.std.proofs.Common.{◌≡◌, ◌∙◌, ◌+◌, ◌↔◌, ℕ, refl, sym, subst, arith, take, IsTrue, Some, None, slice_get}
use Rattle.std.specs.BTreeSet.{contains}
use Rattle.std.specs.Ordering.{nat_cmp}
use Rattle.std.proofs.lemmas.List.{take_all}
use Rattle.std.proofs.lemmas.Option.{slice_get_read}
use Rattle.lp_tables.specs.Edges.{FollowsIn}
use Rattle.lp_tables.specs.Numbers.{number_after}
use Rattle.lp_tables.proofs.Following.{step_some, step_none, after_more, after_same}
use Rattle.lp_tables.proofs.edges.after_dots.Goals as goal
use Rattle.lp_tables.proofs.edges.after_dots.Goals.{in-Some+in_ok-insert, in_default}

pub loop-item-preserved : goal.loop-item-preserved
loop-item-preserved c =
    let rules = c.args.rules.now.all.items in
    let items = c.args.items.now in
    let i = c.loop-item.item-index in
    let x = c.item-item.result in
    let at : slice_get items i ≡ Some x = slice_get_read items _ i x refl (omega arith) c.item-item.is in
    elim c.match-step.branch [
      | in-Some+in_ok-insert w ↦
          let number = w.in-Some.number in
          let next : number_after rules c.args.kind x.production x.index ≡ Some number = (step_some (number_after rules c.args.kind x.production x.index) (x.index + 1) number w.in-Some.field-0-1 (sym c.step.ensures ∙ w.in-Some.is)).0 in
          subst (λ s. (n : ℕ) → IsTrue (contains nat_cmp s n) ↔ FollowsIn rules c.args.kind (take (i + 1) items) n) (sym w.after-is)
          (after_more rules c.args.kind items i number x c.loop-item.after w.insert.new.self at next w.in_ok-insert.ensures.updates.0 c.loop-item.invariant)
      | in_default w ↦
          let none : number_after rules c.args.kind x.production x.index ≡ None = step_none (number_after rules c.args.kind x.production x.index) (x.index + 1) (sym c.step.ensures ∙ w.in_default.is) in
          subst (λ s. (n : ℕ) → IsTrue (contains nat_cmp s n) ↔ FollowsIn rules c.args.kind (take (i + 1) items) n) (sym w.after-is) (after_same rules c.args.kind items i x c.loop-item.after at none c.loop-item.invariant)
    ]

pub returns : goal.returns
returns c =
    let rules = c.args.rules.now.all.items in
    subst (λ xs. (n : ℕ) → IsTrue (contains nat_cmp c.loop-item.after n) ↔ FollowsIn rules c.args.kind xs n) (take_all c.loop-item.item-index c.args.items.now (omega arith)) c.loop-item.invariant
