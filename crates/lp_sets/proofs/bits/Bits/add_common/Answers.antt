use Rattle.std.proofs.Common.{◌∙◌, sym, arith}
use Rattle.lp_sets.specs.Members.{AreWords}
use Rattle.lp_sets.proofs.Words.{or_zero, or_take_common}
use Rattle.lp_sets.proofs.bits.Bits.add_common.Goals as goal

pub loop-place-init : goal.loop-place-init
loop-place-init c = or_zero c.args.self.now

pub loop-place-preserved : goal.loop-place-preserved
loop-place-preserved c =
    let h : AreWords c.deref-word-items.result.now = rw c.deref-word-items.ensures.value c.one.invariant.0 in
    let e = or_take_common c.deref-word-items.result.now c.args.other.now c.loop-place.place c.word.result _ _ h (omega arith) c.word.ensures.bits c.loop-place.invariant in
    e ∙ sym c.in_ok-add_word.ensures.added
