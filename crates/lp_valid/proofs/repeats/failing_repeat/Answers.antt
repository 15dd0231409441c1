use Rattle.std.proofs.Common.{◌≡◌, ◌∙◌, ◌||◌, Bor, length, refl, sym, ap, arith, Some, slice_get, below_more, ⊎_elim}
use Rattle.std.specs.Ordering.{is_eq}
use Rattle.std.specs.BTreeSet.{contains}
use Rattle.std.proofs.lemmas.Bool.{cases_lt}
use Rattle.std.proofs.lemmas.Option.{slice_get_read}
use Rattle.lp_valid.proofs.NewThings.{any_more, was_there, was_new, is_new, not_new, new_past, one_more}
use Rattle.lp_valid.proofs.repeats.failing_repeat.Goals as goal

pub returns-then-not-branch : goal.returns-then-not-branch
returns-then-not-branch g c =
    let x = c.index-items-place.result in
    let key : Bor g.row.T.Denot = record { ref_ptr = (0, 0); now = x } in
    let at : slice_get c.args.items.now c.loop-place.place ≡ Some x = slice_get_read c.args.items.now _ c.loop-place.place x refl (omega arith) c.index-items-place.is in
    (not_new g.T.Ord.cmp c.args.items.now c.loop-place.place x at (sym (c.loop-place.invariant.0 key) ∙ was_there _ _ c.in_ok-insert.ensures.added c.if-not-branch.true), c.loop-place.invariant.1)

pub loop-place-preserved : goal.loop-place-preserved
loop-place-preserved g c =
    let x = c.index-items-place.result in
    let key : Bor g.row.T.Denot = record { ref_ptr = (0, 0); now = x } in
    let at : slice_get c.args.items.now c.loop-place.place ≡ Some x = slice_get_read c.args.items.now _ c.loop-place.place x refl (omega arith) c.index-items-place.is in (
      λ q.
          one_more (contains (λ y z. g.T.Ord.cmp y.now z.now) c.insert.new.self q) (is_eq (g.T.Ord.cmp x q.now)) (contains (λ y z. g.T.Ord.cmp y.now z.now) c.loop-place.seen q) (c.in_ok-insert.ensures.updates.0 q)
          ∙ (ap (λ b. b || is_eq (g.T.Ord.cmp x q.now)) (c.loop-place.invariant.0 q) ∙ sym (any_more (λ y. is_eq (g.T.Ord.cmp y q.now)) c.args.items.now c.loop-place.place x at)),
      below_more _ _ c.loop-place.invariant.1 (is_new g.T.Ord.cmp c.args.items.now c.loop-place.place x at (sym (c.loop-place.invariant.0 key) ∙ was_new _ _ c.in_ok-insert.ensures.added c.if-not-branch.false)),
    )

pub returns : goal.returns
returns g c = λ k. ⊎_elim (λ less. c.loop-place.invariant.1 k (omega arith)) (λ past. new_past (λ y x. is_eq (g.T.Ord.cmp y x)) c.args.items.now k past) (cases_lt k (length c.args.items.now))
