-- The lines in front of the next one that counts.
use Rattle.std.proofs.Common.{◌≡◌, ℕ, ◌+◌, ◌≤◌, ◌==◌, zero, suc, inl, inr, List, [], ◌∷◌, ◌++◌, length, refl, sym, ap, ◌∙◌, subst, arith, append_assoc, length-append}
use Rattle.std.specs.Str.{IsUtf8, trim_start}
use Rattle.std.proofs.lemmas.Bool.{cases_Bool, cond-true, cond-false}
use Rattle.std.proofs.lemmas.Str.{IsUtf8-append}
use Rattle.lp_spelling.specs.Counting.{feeds, is_skipped, settled}
use Rattle.lp_spelling.proofs.Counting.{settled_none}
use Rattle.lp_local.specs.Agreeing.{first_lines, Agree, lines_before}
use Rattle.lp_local.proofs.Agreeing.{feeds_feed, feeds_text, feeds-append, split_first}
use Rattle.lp_local.proofs.Ended.{IsEnded}
use Rattle.lp_local.proofs.Settling.{before_byte, skips_first, counts_first}
use Rattle.lp_viable.proofs.Moving.{nothing_utf8, feed_utf8}

-- texts agree on the lines that end within what both begin with
pub agree_within : (n : ℕ) (x a b : List ℕ) → n ≤ feeds x → Agree n (x ++ a) (x ++ b)
unfolding first_lines
agree_within zero [] [] [] le = refl
agree_within zero [] [] (d ∷ b) le = refl
agree_within zero [] (c ∷ a) [] le = refl
agree_within zero [] (c ∷ a) (d ∷ b) le = refl
agree_within (suc n) [] a b le = absurd (omega arith)
agree_within zero (c ∷ x) a b le = refl
agree_within (suc n) (c ∷ x) a b le = ap (λ (y : List ℕ). c ∷ y) (elim (cases_Bool (c == 10)) [
  | inl y ↦ (
      let f = feeds_feed c x y in
      ap (λ k. first_lines k (x ++ a)) (cond-true (c == 10) n (suc n) y) ∙ agree_within n x a b (omega (arith, f, le)) ∙ sym (ap (λ k. first_lines k (x ++ b)) (cond-true (c == 10) n (suc n) y)))
  | inr z ↦ (
      let f = feeds_text c x z in
      ap (λ k. first_lines k (x ++ a)) (cond-false (c == 10) n (suc n) z) ∙ agree_within (suc n) x a b (omega (arith, f, le)) ∙ sym (ap (λ k. first_lines k (x ++ b)) (cond-false (c == 10) n (suc n) z)))
])

-- whole lines in front of the next one that counts: all that end before it
pub record LinesPassed (text : List ℕ) : Type 0 where
  pub front : List ℕ
  pub rest : List ℕ
  pub whole : text ≡ front ++ rest
  pub ended : IsEnded front
  pub none : settled front ≡ []
  pub before : lines_before text (settled text) ≤ feeds front

nothing_passed : (text : List ℕ) → lines_before text (settled text) ≤ 0 → LinesPassed text
nothing_passed text few = record { front = []; rest = text; whole = refl; ended = inl refl; none = settled_none; before = few }

pub line_ended : (line rest : List ℕ) → IsEnded rest → IsEnded (line ++ 10 ∷ rest)
line_ended line rest (inl e) = inr (line, ap (λ (x : List ℕ). line ++ 10 ∷ x) e)
line_ended line rest (inr f) = inr (line ++ 10 ∷ f.0, ap (λ (x : List ℕ). line ++ 10 ∷ x) f.1 ∙ sym (append_assoc line (10 ∷ f.0) (10 ∷ [])))

passed_within : (m : ℕ) (text : List ℕ) → length text ≤ m → LinesPassed text
passed_within zero [] le = nothing_passed [] (omega arith)
passed_within zero (b ∷ t) le = absurd (omega arith)
passed_within (suc m) text le = elim (split_first text) [
  | inl none ↦ nothing_passed text (omega (arith, none))
  | inr f ↦
      let size : length text ≡ length f.line + length (10 ∷ f.rest) = ap length f.whole ∙ length-append f.line (10 ∷ f.rest) in
      let within = f.within in
      let all : feeds text ≡ feeds f.line + feeds (10 ∷ f.rest) = ap feeds f.whole ∙ feeds-append f.line (10 ∷ f.rest) in
      let one : feeds (10 ∷ f.rest) ≡ 1 + feeds f.rest = feeds_feed 10 f.rest refl in
      elim (cases_Bool (is_skipped (trim_start f.line))) [
        | inl y ↦
            let p : LinesPassed f.rest = passed_within m f.rest (omega (arith, size, le)) in
            let same : feeds (settled text) ≡ feeds (settled f.rest) = ap (λ (x : List ℕ). feeds (settled x)) f.whole ∙ ap feeds (skips_first f.line f.rest f.within y) in
            let there : feeds (f.line ++ 10 ∷ p.front) ≡ feeds f.line + feeds (10 ∷ p.front) = feeds-append f.line (10 ∷ p.front) in
            let more : feeds (10 ∷ p.front) ≡ 1 + feeds p.front = feeds_feed 10 p.front refl in
            let before : lines_before f.rest (settled f.rest) ≤ feeds p.front = p.before in
            record {
              front = f.line ++ 10 ∷ p.front;
              rest = p.rest;
              whole = f.whole ∙ ap (λ (x : List ℕ). f.line ++ 10 ∷ x) p.whole ∙ sym (append_assoc f.line (10 ∷ p.front) p.rest);
              ended = line_ended f.line p.front p.ended;
              none = skips_first f.line p.front f.within y ∙ p.none;
              before = omega (arith, within, all, one, same, there, more, before);
            }
        | inr n ↦
            let same : feeds (settled text) ≡ feeds (trim_start f.line ++ 10 ∷ f.rest) = ap (λ (x : List ℕ). feeds (settled x)) f.whole ∙ ap feeds (counts_first f.line f.rest f.within n) in
            let there : feeds (trim_start f.line ++ 10 ∷ f.rest) ≡ feeds (trim_start f.line) + feeds (10 ∷ f.rest) = feeds-append (trim_start f.line) (10 ∷ f.rest) in
            nothing_passed text (omega (arith, within, all, one, same, there))
      ]
]

pub lines_passed : (text : List ℕ) → LinesPassed text
lines_passed text = passed_within (length text) text (omega arith)

pub ended_utf8 : (front rest : List ℕ) → IsEnded front → IsUtf8 (front ++ rest) → IsUtf8 front
ended_utf8 front rest (inl e) u = subst (λ (x : List ℕ). IsUtf8 x) (sym e) nothing_utf8
ended_utf8 front rest (inr f) u =
    let whole : front ++ rest ≡ f.0 ++ 10 ∷ rest = ap (λ (x : List ℕ). x ++ rest) f.1 ∙ append_assoc f.0 (10 ∷ []) rest in
    subst (λ (x : List ℕ). IsUtf8 x) (sym f.1) (IsUtf8-append f.0 (10 ∷ []) (before_byte f.0 10 rest (omega arith) (subst (λ (x : List ℕ). IsUtf8 x) whole u)) feed_utf8)
