use Rattle.std.proofs.Common.{◌≡◌, ℕ, ◌++◌, ◌≤◌, List, codes, Some, length, string_bytes, arith, length-append, sym, ap, ◌∙◌, subst}
use Rattle.std.proofs.lemmas.Bool.{false≢true}
use Rattle.lp_texts.specs.Brackets.{IsOutside}
use Rattle.lp_texts.specs.FirstWrong.{IsFirst}
use Rattle.lp_texts.specs.Pattern.{IsWrongHole}
use Rattle.lp_texts.proofs.Holes.{hole_first, hole_more, hole_none, hole_right, hole_beside, hole_quoted, hole_within, after_hole, after_start, beside_there}
use Rattle.lp_texts.proofs.Outside.{starts_outside}
use Rattle.lp_texts.proofs.pattern.hole_fault.Goals as goal
use Rattle.lp_texts.proofs.pattern.hole_fault.Goals.{then-i-gt0+else-is_beside_word+else-not-is_outside+in_ok-push_str, else-i-gt0}

-- a text goes on
grown : (at : ℕ) (before more after : List ℕ) → at ≤ length before → after ≡ before ++ more → at ≤ length after
grown at before more after up same = omega (arith, up, ap length same, length-append before more)

pub loop-i-init : goal.loop-i-init
loop-i-init c = (c.new-before.ensures.bytes, λ j h less. omega (arith, less), omega arith, starts_outside c.args.text.now)

pub is_outside-requires-clause-within : goal.is_outside-requires-clause-within
is_outside-requires-clause-within c =
    let before = string_bytes c.loop-i.before in
    let size : c.len-place.result ≡ length before = omega (arith, c.len-place.ensures, c.loop-i.before.bytes.ok.0) in
    let within = hole_within c.args.pieces.now c.loop-i.i before c.args.text.now c.loop-i-test.true c.loop-i.invariant.0 c.requires in
    omega (arith, size, within)

pub returns-then-is_beside_word : goal.returns-then-is_beside_word
returns-then-is_beside_word c =
    let pieces = c.args.pieces.now in
    let before = string_bytes c.loop-i.before in
    let inv = c.loop-i.invariant in
    let size : c.len-place.result ≡ length before = omega (arith, c.len-place.ensures, c.loop-i.before.bytes.ok.0) in
    let beside = beside_there pieces c.loop-i.i before c.as_str.result.now _ c.as_str.ensures.value (sym c.is_beside_word.ensures ∙ c.if-is_beside_word.true) in
    subst (λ n. IsFirst (IsWrongHole pieces) (Some n)) (sym size)
    (hole_first pieces c.loop-i.i before c.if-i-gt0.true c.loop-i-test.true inv.0 (hole_beside pieces c.loop-i.i before inv.0 beside) inv.1)

pub returns-then-not-is_outside : goal.returns-then-not-is_outside
returns-then-not-is_outside c =
    let pieces = c.args.pieces.now in
    let text = c.args.text.now in
    let before = string_bytes c.loop-i.before in
    let inv = c.loop-i.invariant in
    let size : c.len-place.result ≡ length before = omega (arith, c.len-place.ensures, c.loop-i.before.bytes.ok.0) in
    let quoted : IsOutside text (length before) → ⊥ = λ there. false≢true (sym c.if-not-is_outside.true ∙ c.is_outside.ensures.1 (subst (IsOutside text) (sym size) there)) in
    subst (λ n. IsFirst (IsWrongHole pieces) (Some n)) (sym size)
    (hole_first pieces c.loop-i.i before c.if-i-gt0.true c.loop-i-test.true inv.0 (hole_quoted pieces c.loop-i.i before text inv.0 c.requires quoted) inv.1)

pub loop-i-preserved : goal.loop-i-preserved
loop-i-preserved c =
    let pieces = c.args.pieces.now in
    let text = c.args.text.now in
    let i = c.loop-i.i in
    let before = string_bytes c.loop-i.before in
    let mid = string_bytes c.if-i-gt0.before in
    let new = string_bytes c.push_str-in-loop-i.new.self in
    let inv = c.loop-i.invariant in
    let piece = c.as_str-in-loop-i.result.now in
    let at : piece ≡ c.index-pieces-i.result = c.as_str-in-loop-i.ensures in
    let pushed : new ≡ mid ++ piece = c.in_ok-push_str-2.ensures.bytes in
    elim c.if-i-gt0.branch [
      | then-i-gt0+else-is_beside_word+else-not-is_outside+in_ok-push_str w ↦
          let size : w.len-place.result ≡ length before = omega (arith, w.len-place.ensures, c.loop-i.before.bytes.ok.0) in
          let place : c.if-i-gt0.at ≡ length before = w.at-is ∙ size in
          let low : mid ≡ before ++ codes "_" = ap (λ s. string_bytes s) w.before-is ∙ w.in_ok-push_str.ensures.bytes in
          let outside : IsOutside text (length before) = subst (IsOutside text) size (w.is_outside.ensures.0 w.if-not-is_outside.false) in
          let apart = beside_there pieces i before w.as_str.result.now _ w.as_str.ensures.value (sym w.is_beside_word.ensures ∙ w.if-is_beside_word.false) in (
            after_hole pieces i before mid new c.index-pieces-i.result w.if-i-gt0.true c.loop-i-test.true inv.0 low (pushed ∙ ap (λ x. mid ++ x) at) c.index-pieces-i.is,
            hole_more pieces i (λ some. hole_right pieces i before text inv.0 c.requires apart outside) inv.1,
            grown c.if-i-gt0.at mid piece new (grown c.if-i-gt0.at before (codes "_") mid (omega (arith, place)) low) pushed,
            subst (IsOutside text) (sym place) outside,
          )
      | else-i-gt0 w ↦
          let same : mid ≡ before = ap (λ s. string_bytes s) w.before-is in
          let up : c.loop-i.at ≤ length before = inv.2 in (
            after_start pieces i before new c.index-pieces-i.result (omega (arith, w.if-i-gt0.false)) c.loop-i-test.true inv.0 (pushed ∙ ap (λ x. x ++ piece) same ∙ ap (λ x. before ++ x) at) c.index-pieces-i.is,
            hole_more pieces i (λ some. absurd (omega (arith, some, w.if-i-gt0.false))) inv.1,
            grown c.if-i-gt0.at mid piece new (omega (arith, w.at-is, ap length same, up)) pushed,
            subst (IsOutside text) (sym w.at-is) inv.3,
          )
    ]

pub returns : goal.returns
returns c = hole_none c.args.pieces.now c.loop-i.i c.loop-i-test.false c.loop-i.invariant.1
