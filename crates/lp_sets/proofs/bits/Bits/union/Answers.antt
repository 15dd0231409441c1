use Rattle.std.proofs.Common.{◌≡◌, ◌∙◌, ◌≤◌, ap, sym, refl, subst, take, bit_or, arith}
use Rattle.std.proofs.lemmas.Bool.{false≢true}
use Rattle.std.proofs.lemmas.Nat.{le_or_l}
use Rattle.std.proofs.lemmas.List.{take_all}
use Rattle.lp_sets.specs.Members.{spelled, AreWords}
use Rattle.lp_sets.proofs.Words.{or_zero, or_take}
use Rattle.lp_sets.proofs.bits.Bits.union.Goals as goal
use Rattle.lp_sets.proofs.bits.Bits.union.Goals.{then-branch, else-branch}

pub loop-place-init : goal.loop-place-init
loop-place-init c = (or_zero c.args.self.now, λ e. refl, omega arith, λ g. absurd (false≢true g))

pub loop-place-preserved : goal.loop-place-preserved
loop-place-preserved c =
    let h : AreWords c.deref-word-items.result.now = rw c.deref-word-items.ensures.value c.other.invariant.0 in
    let e = or_take c.deref-word-items.result.now c.loop-place.place _ _ _ h (omega arith) refl c.loop-place.invariant.0 in
    let more = subst (λ n. c.loop-place.self ≤ n) (sym c.in_ok-add_word.ensures.added) (le_or_l c.loop-place.self _) in
    let least = c.loop-place.invariant.2 in (
      e ∙ sym c.in_ok-add_word.ensures.added,
      elim c.if-branch.branch [ then-branch w ↦ λ g. cc | else-branch w ↦ λ g. c.in_ok-add_word.ensures.unchanged w.if-branch.false ∙ c.loop-place.invariant.1 (sym w.grew-is ∙ g) ],
      omega (arith, least, more),
      elim c.if-branch.branch [
        | then-branch w ↦ λ g. omega (arith, least, c.in_ok-add_word.ensures.larger w.if-branch.true)
        | else-branch w ↦ λ g. omega (arith, c.loop-place.invariant.3 (sym w.grew-is ∙ g), more)
      ],
    )

pub returns-clause-added : goal.returns-clause-added
returns-clause-added c =
    let all : take c.loop-place.place c.deref-word-items.result.now ≡ c.deref-word-items.result.now = take_all _ _ (omega arith) in
    sym c.loop-place.invariant.0 ∙ ap (λ (xs : _). bit_or c.args.self.now (spelled xs)) (all ∙ c.deref-word-items.ensures.value) ∙ ap (bit_or c.args.self.now) c.other.view_is

pub returns-clause-changed : goal.returns-clause-changed
returns-clause-changed c = λ g e. omega (arith, c.loop-place.invariant.3 g, e)
