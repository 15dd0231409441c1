-- Numbers and ranges begin with a digit.
use Rattle.std.proofs.Common.{◌≡◌, ℕ, zero, suc, true, false, List, [], ◌∷◌, length, take, codes, inl, inr, sym, ◌∙◌, refl}
use Rattle.std.specs.List.{list_all}
use Rattle.std.proofs.lemmas.Bool.{and_parts, cases_Bool, cond-true, cond-false, both_ways}
use Rattle.lp_spelling.specs.HoleEnds.{is_digit, place}
use Rattle.lp_spelling.specs.Fillings.{is_number, is_range, holds, part_before, part_behind, is_element, joined_within, is_joined}
use Rattle.lp_reading_laws.proofs.Holes.Holding.{number_digits}

abbrev pub DigitFirst : List ℕ → Type 0
DigitFirst [] = ⊥
DigitFirst (b ∷ t) = is_digit b ≡ true

pub number_digit : (t : List ℕ) → is_number t ≡ true → DigitFirst t
unfolding is_number
number_digit [] h = both_ways false refl h
number_digit (b ∷ t) h = (and_parts (is_digit b) (list_all is_digit t) (number_digits (b ∷ t) h)).0

taken_digit : (n : ℕ) (t : List ℕ) → DigitFirst (take n t) → DigitFirst t
taken_digit zero [] h = h
taken_digit zero (b ∷ t) h = absurd h
taken_digit (suc n) [] h = h
taken_digit (suc n) (b ∷ t) h = h

pub range_digit : (t : List ℕ) → is_range t ≡ true → DigitFirst t
range_digit t h = elim (cases_Bool (holds (codes "..=") t)) [
  | inl y ↦
      let p = and_parts (is_number (part_before (codes "..=") t)) (is_number (part_behind (codes "..=") t)) (sym (cond-true (holds (codes "..=") t) _ _ y) ∙ h) in
      taken_digit (place (codes "..=") t) t (number_digit (part_before (codes "..=") t) p.0)
  | inr n ↦ number_digit t (sym (cond-false (holds (codes "..=") t) _ _ n) ∙ h)
]

joined_digit : (n : ℕ) (prefix : List ℕ) (e : _) (s t : List ℕ) → ((x : List ℕ) → is_element prefix e x ≡ true → DigitFirst x) → joined_within n prefix e s t ≡ true → DigitFirst t
unfolding joined_within
joined_digit zero prefix e s t f h = absurd (both_ways false refl h)
joined_digit (suc n) prefix e s t f h = elim (cases_Bool (holds s t)) [
  | inl y ↦
      let p = and_parts (is_element prefix e (part_before s t)) (joined_within n prefix e s (part_behind s t)) (sym (cond-true (holds s t) _ _ y) ∙ h) in
      taken_digit (place s t) t (f (part_before s t) p.0)
  | inr z ↦ f t (sym (cond-false (holds s t) _ _ z) ∙ h)
]

pub are_joined_digit : (prefix : List ℕ) (e : _) (s t : List ℕ) → ((x : List ℕ) → is_element prefix e x ≡ true → DigitFirst x) → is_joined prefix e s t ≡ true → DigitFirst t
unfolding is_joined
are_joined_digit prefix e s t f h = joined_digit (length t) prefix e s t f h
