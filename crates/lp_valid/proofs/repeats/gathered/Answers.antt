use Rattle.std.proofs.Common.{◌≡◌, ◌∙◌, ◌||◌, Bor, refl, sym, ap, arith, Some, slice_get}
use Rattle.std.specs.Ordering.{is_eq}
use Rattle.std.proofs.lemmas.Option.{slice_get_read}
use Rattle.lp_valid.specs.Members.{has_by}
use Rattle.lp_valid.proofs.NewThings.{any_more, one_more}
use Rattle.lp_valid.proofs.repeats.gathered.Goals as goal

pub loop-item-preserved : goal.loop-item-preserved
loop-item-preserved g c =
    let x = c.item-item.result in
    let at : slice_get c.args.items.now c.loop-item.item-index ≡ Some x = slice_get_read c.args.items.now _ c.loop-item.item-index x refl (omega arith) c.item-item.is in
    λ q.
    let key : Bor g.row.T.Denot = record { ref_ptr = (0, 0); now = q } in
    one_more (has_by g.T.Ord.cmp c.insert.new.self q) (is_eq (g.T.Ord.cmp x q)) (has_by g.T.Ord.cmp c.loop-item.set q) (c.in_ok-insert.ensures.updates.0 key)
    ∙ (ap (λ b. b || is_eq (g.T.Ord.cmp x q)) (c.loop-item.invariant q) ∙ sym (any_more (λ y. is_eq (g.T.Ord.cmp y q)) c.args.items.now c.loop-item.item-index x at))
