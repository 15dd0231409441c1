-- What std says of the first place of a separator, as the texts before and behind it.
use Rattle.std.proofs.Common.{◌≡◌, ℕ, zero, suc, ◌+◌, ◌<◌, ◌≤◌, Bool, true, false, List, [], ◌∷◌, ◌++◌, length, take, drop, None, refl, ap, sym, ◌∙◌, arith, nat_eq}
use Rattle.std.specs.Prelude.{if◌then◌else◌}
use Rattle.std.specs.List.{starts_with}
use Rattle.std.specs.Str.Pattern.{FindsText, LacksTextAt, SplitsAroundMatch}
use Rattle.std.proofs.lemmas.Slice.Eq.{bytes_eq-Decides}
use Rattle.std.proofs.lemmas.Str.Pattern.{starts_text}
use Rattle.lp_view.specs.Elements.{before, behind}

-- a text begins with another, or it doesn't
lacks_front : (p s : List ℕ) → LacksTextAt p s 0 → starts_with nat_eq s p ≡ false
lacks_front p s h = sym (starts_text false p s h)

front_taken : (p rest : List ℕ) → p ≡ take (length p) (p ++ rest)
front_taken [] rest = refl
front_taken (b ∷ bs) rest = ap (λ (xs : List ℕ). b ∷ xs) (front_taken bs rest)

has_front : (p s rest : List ℕ) → s ≡ p ++ rest → starts_with nat_eq s p ≡ true
has_front p s rest e = (bytes_eq-Decides p (take (length p) s)).1 (front_taken p rest ∙ ap (λ (xs : List ℕ). take (length p) xs) (sym e))

-- the separator stands nowhere
before_none : (p s : List ℕ) → ((i : ℕ) → i ≤ length s → LacksTextAt p s i) → before p s ≡ s
before_none p [] h = refl
before_none p (b ∷ bs) h =
    ap (λ (t : Bool). if t then [] else (b ∷ before p bs)) (lacks_front p (b ∷ bs) (h 0 (omega arith)))
    ∙ ap (λ (xs : List ℕ). b ∷ xs) (before_none p bs (λ i le. h (suc i) (omega arith)))

behind_none : (p s : List ℕ) → ((i : ℕ) → i ≤ length s → LacksTextAt p s i) → behind p s ≡ []
behind_none p [] h = refl
behind_none p (b ∷ bs) h =
    ap (λ (t : Bool). if t then drop (length p) (b ∷ bs) else behind p bs) (lacks_front p (b ∷ bs) (h 0 (omega arith)))
    ∙ behind_none p bs (λ i le. h (suc i) (omega arith))

-- it first stands at a place
before_some : (p s rest : List ℕ) (i : ℕ) → ((k : ℕ) → k < i → LacksTextAt p s k) → drop i s ≡ p ++ rest → i ≤ length s → before p s ≡ take i s
before_some p [] rest zero h e le = refl
before_some p [] rest (suc i) h e le = absurd (omega arith)
before_some p (b ∷ bs) rest zero h e le = ap (λ (t : Bool). if t then [] else (b ∷ before p bs)) (has_front p (b ∷ bs) rest e)
before_some p (b ∷ bs) rest (suc i) h e le =
    ap (λ (t : Bool). if t then [] else (b ∷ before p bs)) (lacks_front p (b ∷ bs) (h 0 (omega arith)))
    ∙ ap (λ (xs : List ℕ). b ∷ xs) (before_some p bs rest i (λ k l. h (suc k) (omega arith)) e (omega arith))

abbrev none : List ℕ
none = []

drop_none : (n : ℕ) → drop n none ≡ none
drop_none zero = refl
drop_none (suc n) = refl

behind_some : (p s rest : List ℕ) (i : ℕ) → ((k : ℕ) → k < i → LacksTextAt p s k) → drop i s ≡ p ++ rest → i ≤ length s → behind p s ≡ drop (i + length p) s
behind_some p [] rest zero h e le = sym (drop_none (0 + length p))
behind_some p [] rest (suc i) h e le = absurd (omega arith)
behind_some p (b ∷ bs) rest zero h e le =
    let same : length p ≡ 0 + length p = omega arith in
    ap (λ (t : Bool). if t then drop (length p) (b ∷ bs) else behind p bs) (has_front p (b ∷ bs) rest e) ∙ ap (λ n. drop n (b ∷ bs)) same
behind_some p (b ∷ bs) rest (suc i) h e le =
    let same : suc (i + length p) ≡ suc i + length p = omega arith in
    ap (λ (t : Bool). if t then drop (length p) (b ∷ bs) else behind p bs) (lacks_front p (b ∷ bs) (h 0 (omega arith)))
    ∙ behind_some p bs rest i (λ k l. h (suc k) (omega arith)) e (omega arith)
    ∙ ap (λ n. drop n (b ∷ bs)) same

-- what `split_once` gives
pub none_split : (p s : List ℕ) → FindsText p s None → (s ≡ before p s) × ([] ≡ behind p s)
none_split p s h = (sym (before_none p s h), sym (behind_none p s h))

pub some_split : (p s : List ℕ) (front back : List ℕ) → SplitsAroundMatch (FindsText p) s front back → (front ≡ before p s) × (back ≡ behind p s)
some_split p s front back h =
    let le : h.0 ≤ length s = omega (arith, h.5, h.7) in
    let ends : h.1 ≡ h.0 + length p = h.2.1.ends in
    (h.3 ∙ sym (before_some p s (drop h.1 s) h.0 h.2.0 h.2.1.split le), h.4 ∙ ap (λ (n : ℕ). drop n s) ends ∙ sym (behind_some p s (drop h.1 s) h.0 h.2.0 h.2.1.split le))
