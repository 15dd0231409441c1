use Rattle.std.proofs.Common.{◌≡◌, ◌+◌, ◌*◌, IsTrue, false, refl, arith}
use Rattle.lp_sets.proofs.Listing.{lists_more, lists_same}
use Rattle.lp_sets.proofs.bits.Bits.push_numbers.Goals as goal
use Rattle.lp_sets.proofs.bits.Bits.push_numbers.Goals.{then-contains+in_ok-push, else-contains}

pub loop-bit-init : goal.loop-bit-init
loop-bit-init c = let e : 64 * c.args.place ≡ 64 * c.args.place + 0 = omega arith in rw (← e) c.requires.before

pub loop-bit-preserved : goal.loop-bit-preserved
loop-bit-preserved c =
    let n = 64 * c.args.place + c.loop-bit.bit in
    let e : 64 * c.args.place + (c.loop-bit.bit + 1) ≡ n + 1 = omega arith in
    let f : c.args.place * 64 + c.loop-bit.bit ≡ n = omega arith in
    elim c.if-contains.branch [ then-contains+in_ok-push w ↦ rw (w.numbers-is, w.in_ok-push.ensures.items, e, f) (lists_more c.loop-bit.invariant (rw f at (w.if-contains.ensures.stands.0 refl))) | else-contains w ↦ rw (w.numbers-is, e) (lists_same c.loop-bit.invariant (λ h. let e : IsTrue false = w.if-contains.ensures.stands.1 (rw f h) in cc)) ]
