use Rattle.std.proofs.Common.{◌≡◌, ◌+◌, refl, sym, subst, arith, take, Some, slice_get}
use Rattle.std.proofs.lemmas.Option.{slice_get_read}
use Rattle.lp_tables.specs.Opening.{FollowsKernel}
use Rattle.lp_tables.specs.Walk.{Marks}
use Rattle.lp_tables.proofs.Walks.{kernel_step, kernel_same}
use Rattle.lp_tables.proofs.opened.Opened.open_kernel.Goals as goal
use Rattle.lp_tables.proofs.opened.Opened.open_kernel.Goals.{then-item-gt0+in_ok-open_next, else-item-gt0}

pub loop-item-preserved : goal.loop-item-preserved
loop-item-preserved c =
    let rules = c.args.rules.now.all.items in
    let items = c.args.items.now in
    let i = c.loop-item.item-index in
    let x = c.item-item.result in
    let at : slice_get items i ≡ Some x = slice_get_read items _ i x refl (omega arith) c.item-item.is in
    elim c.if-item-gt0.branch [
      | then-item-gt0+in_ok-open_next w ↦
          subst (λ s. Marks c.args.self.now s (FollowsKernel rules (take (i + 1) items))) (sym w.self-is)
          (kernel_step rules items i x c.args.self.now c.loop-item.self w.open_next.new.self w.next.result at (omega (arith, w.if-item-gt0.true)) w.next.ensures c.loop-item.invariant w.in_ok-open_next.ensures.marks)
      | else-item-gt0 w ↦
          subst (λ s. Marks c.args.self.now s (FollowsKernel rules (take (i + 1) items))) (sym w.self-is) (kernel_same rules items i x c.args.self.now c.loop-item.self at (omega (arith, w.if-item-gt0.false)) c.loop-item.invariant)
    ]
