use Rattle.std.proofs.Common.{◌≡◌, ◌+◌, ◌-◌, ◌*◌, ◌/◌, ◌^◌, sym, ◌∙◌, arith}
use Rattle.lp_sets.proofs.Words.{high_zero}
use Rattle.lp_sets.proofs.Order.{same_words, other_words}
use Rattle.lp_sets.proofs.bits.BitsOrd.cmp.Goals as goal

pub loop-place-init : goal.loop-place-init
loop-place-init c =
    let v = c.self.inside.words.ok.0 in
    let w = c.other.inside.words.ok.0 in
    high_zero c.self.inside.words.items _ _ c.self.invariant.0 c.self.view_is (omega arith) ∙ sym (high_zero c.other.inside.words.items _ _ c.other.invariant.0 c.other.view_is (omega arith))

pub loop-place-preserved : goal.loop-place-preserved
loop-place-preserved c =
    let m = 64 * (c.loop-place.place - 1) in
    let e : m + 64 ≡ 64 * c.loop-place.place = omega arith in
    let high : c.args.self.now / 2 ^ (m + 64) ≡ c.args.other.now / 2 ^ (m + 64) = rw e c.loop-place.invariant in
    same_words c.args.self.now c.args.other.now m _ _ c.word.ensures.value c.word-in-loop-place.ensures.value high (sym c.in-Equal.ensures)

pub returns-in_default : goal.returns-in_default
returns-in_default c =
    let m = 64 * (c.loop-place.place - 1) in
    let e : m + 64 ≡ 64 * c.loop-place.place = omega arith in
    let high : c.args.self.now / 2 ^ (m + 64) ≡ c.args.other.now / 2 ^ (m + 64) = rw e c.loop-place.invariant in
    c.cmp.ensures
    ∙ other_words c.args.self.now c.args.other.now m _ _ c.word.ensures.value c.word-in-loop-place.ensures.value high (λ h. c.in_default.not-Equal (c.cmp.ensures ∙ h))
