use Rattle.std.proofs.Common.{◌≡◌, ◌<◌, ◌||◌, true, false, Bor, length, sym, ap, ◌∙◌, arith}
use Rattle.std.specs.Ordering.{is_eq}
use Rattle.std.specs.BTreeSet.{contains}
use Rattle.std.proofs.Math.ListN.{get_or}
use Rattle.lp_lower.proofs.RepeatSteps.{any_more, one_more, was_there, was_new, repeat_step}
use Rattle.lp_lower.proofs.refusals.least_repeat.Goals as goal
use Rattle.lp_lower.proofs.refusals.least_repeat.Goals.{then-not-branch, else-not-branch}

pub loop-key-preserved : goal.loop-key-preserved
loop-key-preserved g c =
    let keys = c.args.keys.now in
    let i = c.loop-key.key-index in
    let x = c.loop-key-item.result in
    let key : Bor g.row.T.Denot = record { ref_ptr = (0, 0); now = x.0 } in
    let less : i < length keys = omega arith in
    let at : get_or keys i x ≡ x = sym c.loop-key-item.is in
    let step = repeat_step (λ a b. is_eq (g.T.Ord.cmp a.0 b.0)) (λ k. k.1) keys i x less at in (
      λ q.
          one_more (contains (λ y z. g.T.Ord.cmp y.now z.now) c.insert.new.self q) (is_eq (g.T.Ord.cmp x.0 q.now)) (contains (λ y z. g.T.Ord.cmp y.now z.now) c.loop-key.seen q) (c.in_ok-insert.ensures.updates.0 q)
          ∙ (ap (λ b. b || is_eq (g.T.Ord.cmp x.0 q.now)) (c.loop-key.invariant.0 q) ∙ sym (any_more (λ k. is_eq (g.T.Ord.cmp k.0 q.now)) keys i x less at)),
      elim c.if-not-branch.branch [
        | then-not-branch w ↦ step true (sym (c.loop-key.invariant.0 key) ∙ was_there _ _ c.in_ok-insert.ensures.added w.if-not-branch.true) c.loop-key.found _ _ (w.found-is ∙ w.least-found.ensures) c.loop-key.invariant.1
        | else-not-branch w ↦ step false (sym (c.loop-key.invariant.0 key) ∙ was_new _ _ c.in_ok-insert.ensures.added w.if-not-branch.false) c.loop-key.found _ _ w.found-is c.loop-key.invariant.1
      ],
    )
