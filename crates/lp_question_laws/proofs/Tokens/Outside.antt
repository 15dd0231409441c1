-- The holes of a pattern whose text meets the rule stand outside its quotes.
use Rattle.std.proofs.Common.{◌≡◌, ℕ, zero, suc, ◌<◌, ◌≤◌, Bool, true, false, List, [], ◌∷◌, ◌++◌, length, take, drop, None, ◌⊎◌, inl, inr, ⊎_elim, refl, sym, ap, subst, ◌∙◌, arith, codes, append_assoc, append-nil}
use Rattle.std.proofs.Math.Seq.{drop-append_seam}
use Rattle.std.proofs.lemmas.Slice.Eq.{bytes_eq-Decides}
use Rattle.std.specs.Str.{bytes_eq}
use Rattle.lp_texts.specs.Brackets.{Step, Onward, Stuck, step_over, Leads, leads_none, leads_one, IsOutside}
use Rattle.lp_texts.specs.Pattern.{joined, AnswersPattern}
use Rattle.lp_texts.specs.Quotes.{piece}
use Rattle.lp_texts.proofs.Leading.{step_fewer}

-- the first step of a way
pub split : (s b t c : List ℕ) → Leads s b t c → ((s ≡ t) × (b ≡ c)) ⊎ ((next : List ℕ) × (inner : List ℕ) × (step_over b (piece s) ≡ Onward next inner) × Leads next inner t c)
split _ _ _ _ (leads_none s b) = inl (refl, refl)
split _ _ _ _ (leads_one s b next inner t c first more) = inr (next, inner, first, more)

-- pieces lead up to where a text is left
abbrev Reaches : List ℕ → List ℕ → List ℕ → Type 0
Reaches s b t = (brackets : List ℕ) × Leads s b t brackets

reaches_on : (s b t next inner : List ℕ) → step_over b (piece s) ≡ Onward next inner → (s ≡ t → ⊥) → Reaches s b t → Reaches next inner t
reaches_on s b t next inner first other way =
    ⊎_elim
    (λ none. absurd (other none.0))
    (λ more.
    let both : Onward more.0 more.1 ≡ Onward next inner = sym more.2 ∙ first in
    let at : more.0 ≡ next = cc in
    let brackets : more.1 ≡ inner = cc in
    (way.0, subst (λ x. Leads x inner t way.0) at (subst (λ x. Leads more.0 x t way.0) brackets more.3)))
    (split s b t way.0 way.1)

reaches_stuck : (s b t : List ℕ) → step_over b (piece s) ≡ Stuck → (s ≡ t → ⊥) → Reaches s b t → ⊥
reaches_stuck s b t first other way =
    ⊎_elim
    (λ none. other none.0)
    (λ more. (let both : Onward more.0 more.1 ≡ Stuck = sym more.2 ∙ first in cc))
    (split s b t way.0 way.1)

-- they do or they don't
abbrev IsDecided : List ℕ → List ℕ → List ℕ → Type 0
IsDecided s b t = Reaches s b t ⊎ (Reaches s b t → ⊥)

by_step : (s b t : List ℕ) (step : Step) → step_over b (piece s) ≡ step → (s ≡ t → ⊥) → ((next inner : List ℕ) → step_over b (piece s) ≡ Onward next inner → IsDecided next inner t) → IsDecided s b t
by_step s b t Stuck first other later = inr (reaches_stuck s b t first other)
by_step s b t (Onward next inner) first other later =
    ⊎_elim
    (λ way. inl (way.0, leads_one s b next inner t way.0 first way.1))
    (λ never. inr (λ way. never (reaches_on s b t next inner first other way)))
    (later next inner first)

by_text : (s b t : List ℕ) → ((next inner : List ℕ) → step_over b (piece s) ≡ Onward next inner → IsDecided next inner t) → IsDecided s b t
by_text s b t later = by (bytes_eq s t) refl
  where
    by : (same : Bool) → bytes_eq s t ≡ same → IsDecided s b t
    by true same = (let at : s ≡ t = (bytes_eq-Decides s t).0 same in inl (b, subst (λ x. Leads s b x b) at (leads_none s b)))
    by false same = by_step s b t (step_over b (piece s)) refl (λ at. (let no : true ≡ false = sym ((bytes_eq-Decides s t).1 at) ∙ same in cc)) later

reaches_or_not : (n : ℕ) (s b t : List ℕ) → length s ≤ n → IsDecided s b t
reaches_or_not zero s b t le = by_text s b t (λ next inner first. absurd (omega (arith, le, step_fewer s b next inner first)))
reaches_or_not (suc n) s b t le = by_text s b t (λ next inner first. reaches_or_not n next inner t (omega (arith, le, step_fewer s b next inner first)))

-- a place stands outside quotes or not
outside_or_not : (text : List ℕ) (i : ℕ) → IsOutside text i ⊎ (IsOutside text i → ⊥)
outside_or_not text i = reaches_or_not (length text) text [] (drop i text) (omega arith)

-- a pattern is what stands before a hole, and the hole with the rest
parted : (pieces : List (List ℕ)) (k : ℕ) → 0 < k → k < length pieces → joined (take k pieces) ++ (codes "_" ++ joined (drop k pieces)) ≡ joined pieces
parted [] k low high = absurd (omega arith)
parted (q ∷ ps) zero low high = absurd (omega arith)
parted (q ∷ []) (suc k) low high = absurd (omega arith)
parted (q ∷ p ∷ ps) (suc zero) low high = ap (λ x. x ++ (codes "_" ++ joined (p ∷ ps))) (append-nil q)
parted (q ∷ p ∷ ps) (suc (suc k)) low high =
    append_assoc q (codes "_" ++ joined (take (suc k) (p ∷ ps))) (codes "_" ++ joined (drop (suc k) (p ∷ ps)))
    ∙ ap (λ x. q ++ (codes "_" ++ x)) (parted (p ∷ ps) (suc k) (omega arith) (omega arith))

from_hole : (pieces : List (List ℕ)) (k : ℕ) → 0 < k → k < length pieces → drop (length (joined (take k pieces))) (joined pieces) ≡ codes "_" ++ joined (drop k pieces)
from_hole pieces k low high =
    let before = joined (take k pieces) in
    ap (drop (length before)) (sym (parted pieces k low high)) ∙ drop-append_seam before (codes "_" ++ joined (drop k pieces))

-- pieces lead up to each hole
pub holes_outside : (pieces : List (List ℕ)) → AnswersPattern pieces None → (k : ℕ) → 0 < k → k < length pieces → (brackets : List ℕ) × Leads (joined pieces) [] (codes "_" ++ joined (drop k pieces)) brackets
holes_outside pieces h k low high =
    let place = length (joined (take k pieces)) in
    ⊎_elim
    (λ there. (there.0, subst (λ t. Leads (joined pieces) [] t there.0) (from_hole pieces k low high) there.1))
    (λ quoted. absurd (h place (inr (record { number = k; some_before = low; some_behind = high; place = refl; wrong = inr quoted }))))
    (outside_or_not (joined pieces) place)
