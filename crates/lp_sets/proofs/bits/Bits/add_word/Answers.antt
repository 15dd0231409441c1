use Rattle.std.proofs.Common.{◌≡◌, ℕ, ◌*◌, ◌^◌, ◌<◌, length, ◌∙◌, ap, set, bit_or, arith}
use Rattle.std.proofs.lemmas.Bool.{eqb-false, not-true}
use Rattle.std.proofs.lemmas.List.{get_or_read}
use Rattle.std.proofs.Math.ListN.{length-set}
use Rattle.std.proofs.lemmas.Nat.{or_lt}
use Rattle.lp_sets.specs.Members.{spelled}
use Rattle.lp_sets.proofs.Words.{spelled-set, spelled-larger, or_larger, AreWords-at, AreWords-set}
use Rattle.lp_sets.proofs.bits.Bits.add_word.Goals as goal

pub invariant_of-self-2 : goal.invariant_of-self-2
invariant_of-self-2 c =
    let words = c.reach.new.words.items in
    let l : c.args.place < length words = rw (← c.reach.new.words.ok.0) c.in_ok-reach.ensures.room in
    let same = get_or_read words _ _ l c.index-old.ensures 0 in
    let w = bit_or c.index-old.result.now c.args.word in
    (AreWords-set words c.args.place w c.in_ok-reach.ensures.numbered.0 (rw same (or_lt 64 _ _ (AreWords-at words c.args.place c.in_ok-reach.ensures.numbered.0) (omega arith))), omega (arith, length-set words c.args.place w, c.in_ok-reach.ensures.numbered.1))

pub returns-clause-added : goal.returns-clause-added
returns-clause-added c =
    let words = c.reach.new.words.items in
    let l : c.args.place < length words = rw (← c.reach.new.words.ok.0) c.in_ok-reach.ensures.room in
    let same = get_or_read words _ _ l c.index-old.ensures 0 in
    let e = spelled-set words c.args.place c.args.word l (omega arith) c.in_ok-reach.ensures.numbered.0 in
    ap (λ (w : ℕ). spelled (set words c.args.place (bit_or w c.args.word))) same ∙ e ∙ ap (λ (n : ℕ). bit_or n (c.args.word * 2 ^ (64 * c.args.place))) (c.reach.ensures.same ∙ c.self.view_is)

pub returns-clause-larger : goal.returns-clause-larger
returns-clause-larger c = λ grew.
    let words = c.reach.new.words.items in
    let old = c.index-old.result.now in
    let new : ℕ = bit_or old c.args.word in
    let l : c.args.place < length words = rw (← c.reach.new.words.ok.0) c.in_ok-reach.ensures.room in
    let same = get_or_read words _ _ l c.index-old.ensures 0 in
    let more : old < new = or_larger old c.args.word (λ e. eqb-false new old (not-true _ grew) e) in
    let was : spelled words ≡ c.args.self.now = c.reach.ensures.same ∙ c.self.view_is in
    let larger = spelled-larger words c.args.place new l (omega (arith, same, more)) in
    omega (arith, was, larger)
