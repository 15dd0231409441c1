-- The bytes of what fills a hole.
use Rattle.std.proofs.Common.{◌≡◌, ℕ, ◌+◌, ◌-◌, ◌==◌, zero, suc, Bool, true, false, not, List, [], ◌∷◌, ◌++◌, length, get_or, take, drop, codes, refl, sym, ap, ◌∙◌, arith, eqb, ltb, inl, inr, ⊎_elim, length-append, take-append-drop}
use Rattle.std.specs.List.{list_all, starts_with, ends_with}
use Rattle.std.specs.Str.{is_utf8}
use Rattle.std.proofs.lemmas.Bool.{and_parts, and_from, or_cases, or_left, cases_Bool, cond-true, cond-false, eqb-true, eq-eqb, ne_eqb, ltb-true, ltb-false, le-ltb, not-true, not_from_false, both_ways}
use Rattle.std.proofs.lemmas.List.{drop-drop, get_or-append-add}
use Rattle.std.proofs.lemmas.List.Folds.{list_all-append}
use Rattle.std.proofs.lemmas.Slice.Eq.{bytes_eq-Decides}
use Rattle.std.proofs.lemmas.Str.{IsUtf8-from_is_utf8}
use Rattle.lp_form.specs.declared.template.Kind.{Kind}
use Rattle.lp_form.specs.declared.template.Kind.TheVariants as kind
use Rattle.lp_texts.specs.Identifiers.{is_identifier}
use Rattle.lp_spelling.specs.HoleEnds.{first_at, place, is_digit, is_word}
use Rattle.lp_spelling.specs.Fillings.{is_number, holds, is_name, is_own, is_argument, is_range, is_element, joined_within, is_joined, is_escape, is_escaped, are_several, are_captures, has_shape, without_end, without_front, part_before, part_behind, Fits}
use Rattle.lp_spelling.proofs.Reading.{starts_ok}
use Rattle.lp_spelling.proofs.Fitting.{first_passes, number_parts}
use Rattle.lp_reading_laws.specs.Holes.LineTests.{is_without, angle, is_free_kind}
use Rattle.lp_reading_laws.proofs.Holes.Words.{identifier_words}

pub all_if : (p q : ℕ → Bool) → ((b : ℕ) → p b ≡ true → q b ≡ true) → (t : List ℕ) → list_all p t ≡ true → list_all q t ≡ true
all_if p q f [] h = refl
all_if p q f (b ∷ t) h =
    let r = and_parts (p b) (list_all p t) h in
    and_from (q b) (list_all q t) (f b r.0) (all_if p q f t r.1)

-- words and digits
pub name_words : (t : List ℕ) → is_name t ≡ true → list_all is_word t ≡ true
name_words t h =
    let p = and_parts (is_utf8 t) (is_identifier t) h in
    identifier_words t (IsUtf8-from_is_utf8 t p.0) p.1

pub number_digits : (t : List ℕ) → is_number t ≡ true → list_all is_digit t ≡ true
number_digits t h = (number_parts t h).1

pub escaped_words : (t : List ℕ) → is_escaped t ≡ true → list_all is_word t ≡ true
escaped_words t h = all_if is_escape is_word (λ b e. (and_parts (is_word b) (ltb b 128) e).0) t h

pub own_words : (prefix t : List ℕ) → is_own prefix t ≡ true → list_all is_word t ≡ true
own_words prefix t h = name_words t (and_parts (starts_with eqb t prefix) (is_name t) h).1

-- a byte that is no word's is in no word
pub apart_byte : (c : ℕ) → is_word c ≡ false → (b : ℕ) → is_word b ≡ true → not (b == c) ≡ true
apart_byte c n b h = not_from_false (b == c) (ne_eqb b c (λ e. both_ways (is_word c) n (sym (ap is_word e) ∙ h)))

pub words_without : (c : ℕ) (t : List ℕ) → is_word c ≡ false → list_all is_word t ≡ true → is_without c t ≡ true
words_without c t n h = all_if is_word (λ b. not (b == c)) (apart_byte c n) t h

-- texts in parts
pub ends_ok : (s t : List ℕ) → ends_with eqb t s ≡ true → t ≡ take (length t - length s) t ++ s
ends_ok s t h =
    let e : s ≡ drop (length t - length s) t = (bytes_eq-Decides s (drop (length t - length s) t)).0 h in
    sym (take-append-drop (length t - length s) t) ∙ ap (λ x. take (length t - length s) t ++ x) (sym e)

split_at : (s t : List ℕ) → ltb (place s t) (length t) ≡ true → t ≡ part_before s t ++ (s ++ part_behind s t)
split_at s t h =
    let test : List ℕ → Bool = λ x. starts_with eqb x s in
    let there : drop (place s t) t ≡ s ++ drop (length s) (drop (place s t) t) = starts_ok s (drop (place s t) t) (first_passes test t (ltb-true (place s t) (length t) h)) in
    sym (take-append-drop (place s t) t) ∙ ap (λ x. take (place s t) t ++ x) (there ∙ ap (λ x. s ++ x) (drop-drop (length s) (place s t) t))

pub holds_first : (b : ℕ) (s t : List ℕ) → holds (b ∷ s) t ≡ true → ltb (place (b ∷ s) t) (length t) ≡ true
unfolding holds
holds_first b s t h = ⊎_elim (λ e. absurd (omega (arith, eqb-true (length (b ∷ s)) 0 e))) (λ l. l) (or_cases (length (b ∷ s) == 0) (ltb (place (b ∷ s) t) (length t)) h)

pub split_held : (b : ℕ) (s t : List ℕ) → holds (b ∷ s) t ≡ true → t ≡ part_before (b ∷ s) t ++ ((b ∷ s) ++ part_behind (b ∷ s) t)
split_held b s t h = split_at (b ∷ s) t (holds_first b s t h)

abbrev Free : List ℕ → Type 0
Free t = is_without angle t ≡ true

pub without-append : (c : ℕ) (a b : List ℕ) → is_without c a ≡ true → is_without c b ≡ true → is_without c (a ++ b) ≡ true
without-append c a b h k = list_all-append (λ x. not (x == c)) a b ∙ and_from (is_without c a) (is_without c b) h k

in_parts : (t a b : List ℕ) → t ≡ a ++ b → Free a → Free b → Free t
in_parts t a b e h k = ap (is_without angle) e ∙ without-append angle a b h k

split_free : (b : ℕ) (s t : List ℕ) → holds (b ∷ s) t ≡ true → Free (b ∷ s) → Free (part_before (b ∷ s) t) → Free (part_behind (b ∷ s) t) → Free t
split_free b s t h o x y = in_parts t (part_before (b ∷ s) t) ((b ∷ s) ++ part_behind (b ∷ s) t) (split_held b s t h) x (without-append angle (b ∷ s) (part_behind (b ∷ s) t) o y)

front_free : (s t : List ℕ) → starts_with eqb t s ≡ true → Free s → Free (without_front s t) → Free t
front_free s t h o x = in_parts t s (without_front s t) (starts_ok s t h) o x

end_free : (s t : List ℕ) → ends_with eqb t s ≡ true → Free s → Free (without_end s t) → Free t
end_free s t h o x = in_parts t (without_end s t) s (ends_ok s t h) x o

-- elements
name_free : (t : List ℕ) → is_name t ≡ true → Free t
name_free t h = words_without angle t refl (name_words t h)

pub number_free : (t : List ℕ) → is_number t ≡ true → is_without angle t ≡ true
number_free t h = words_without angle t refl (all_if is_digit is_word (λ b d. or_left (is_digit b) _ d) t (number_digits t h))

pub range_free : (t : List ℕ) → is_range t ≡ true → is_without angle t ≡ true
range_free t h = elim (cases_Bool (holds (codes "..=") t)) [
  | inl y ↦
      let p = and_parts (is_number (part_before (codes "..=") t)) (is_number (part_behind (codes "..=") t)) (sym (cond-true (holds (codes "..=") t) _ _ y) ∙ h) in
      split_free 46 (codes ".=") t y refl (number_free (part_before (codes "..=") t) p.0) (number_free (part_behind (codes "..=") t) p.1)
  | inr n ↦ number_free t (sym (cond-false (holds (codes "..=") t) _ _ n) ∙ h)
]

argument_free : (t : List ℕ) → is_argument t ≡ true → Free t
argument_free t h = elim (cases_Bool (starts_with eqb t (codes "&"))) [
  | inl y ↦ front_free (codes "&") t y refl (name_free (without_front (codes "&") t) (sym (cond-true (starts_with eqb t (codes "&")) _ _ y) ∙ h))
  | inr n ↦ name_free t (sym (cond-false (starts_with eqb t (codes "&")) _ _ n) ∙ h)
]

own_free : (prefix t : List ℕ) → is_own prefix t ≡ true → Free t
own_free prefix t h = words_without angle t refl (own_words prefix t h)

joined_free : (n : ℕ) (prefix : List ℕ) (e : _) (b : ℕ) (s t : List ℕ) → ((x : List ℕ) → is_element prefix e x ≡ true → Free x) → Free (b ∷ s) → joined_within n prefix e (b ∷ s) t ≡ true → Free t
unfolding joined_within
joined_free zero prefix e b s t f o h = absurd (both_ways false refl h)
joined_free (suc n) prefix e b s t f o h = elim (cases_Bool (holds (b ∷ s) t)) [
  | inl y ↦
      let p = and_parts (is_element prefix e (part_before (b ∷ s) t)) (joined_within n prefix e (b ∷ s) (part_behind (b ∷ s) t)) (sym (cond-true (holds (b ∷ s) t) _ _ y) ∙ h) in
      split_free b s t y o (f (part_before (b ∷ s) t) p.0) (joined_free n prefix e b s (part_behind (b ∷ s) t) f o p.1)
  | inr z ↦ f t (sym (cond-false (holds (b ∷ s) t) _ _ z) ∙ h)
]

pub are_joined_free : (prefix : List ℕ) (e : _) (b : ℕ) (s t : List ℕ) → ((x : List ℕ) → is_element prefix e x ≡ true → is_without angle x ≡ true) → is_without angle (b ∷ s) ≡ true →
    is_joined prefix e (b ∷ s) t ≡ true → is_without angle t ≡ true
unfolding is_joined
are_joined_free prefix e b s t f o h = joined_free (length t) prefix e b s t f o h

several_free : (prefix t : List ℕ) → are_several prefix t ≡ true → Free t
unfolding is_element
several_free prefix t h =
    let p = and_parts (ends_with eqb t (codes ")")) _ h in
    let q = and_parts (holds (codes ", ") (without_end (codes ")") t)) _ p.1 in
    end_free (codes ")") t p.0 refl (are_joined_free prefix _ 44 (codes " ") (without_end (codes ")") t) (λ x k. own_free prefix x k) refl q.1)

captures_free : (prefix t : List ℕ) → are_captures prefix t ≡ true → Free t
captures_free prefix t h = elim (cases_Bool (starts_with eqb t (codes "("))) [
  | inl y ↦ front_free (codes "(") t y refl (several_free prefix (without_front (codes "(") t) (sym (cond-true (starts_with eqb t (codes "(")) _ _ y) ∙ h))
  | inr n ↦ own_free prefix t (sym (cond-false (starts_with eqb t (codes "(")) _ _ n) ∙ h)
]

-- what fills a hole without `>`
pub kind_free : (prefix : List ℕ) (k : Kind) (t : List ℕ) → Fits prefix k t → is_free_kind k ≡ true → is_without angle t ≡ true
unfolding Fits has_shape is_element
kind_free prefix kind.Name t f h = name_free t f.0
kind_free prefix kind.Number t f h = number_free t f.0
kind_free prefix kind.Arguments t f h = are_joined_free prefix _ 44 (codes " ") t (λ x e. argument_free x e) refl f.0
kind_free prefix kind.Captures t f h = captures_free prefix t f.0
kind_free prefix _ t f h = absurd (both_ways false refl h)

-- a byte that a text doesn't hold
without_from : (c : ℕ) (t : List ℕ) → ltb (place (c ∷ []) t) (length t) ≡ false → is_without c t ≡ true
unfolding first_at
without_from c [] h = refl
without_from c (b ∷ t) h = elim (cases_Bool (starts_with eqb (b ∷ t) (c ∷ []))) [
  | inl y ↦
      let e : place (c ∷ []) (b ∷ t) ≡ 0 = cond-true (starts_with eqb (b ∷ t) (c ∷ [])) _ _ y in
      let over = ltb-false (place (c ∷ []) (b ∷ t)) (length (b ∷ t)) h in
      absurd (omega (arith, e, over))
  | inr n ↦
      let e : place (c ∷ []) (b ∷ t) ≡ suc (place (c ∷ []) t) = cond-false (starts_with eqb (b ∷ t) (c ∷ [])) _ _ n in
      let over = ltb-false (place (c ∷ []) (b ∷ t)) (length (b ∷ t)) h in
      let rest = without_from c t (le-ltb (place (c ∷ []) t) (length t) (omega (arith, e, over))) in
      and_from (not (b == c)) (is_without c t) (not_from_false (b == c) (ne_eqb b c (λ k. both_ways _ n (and_from (c == b) true (eq-eqb c b (sym k)) refl)))) rest
]

pub held_not : (c : ℕ) (t : List ℕ) → not (holds (c ∷ []) t) ≡ true → is_without c t ≡ true
unfolding holds
held_not c t h = without_from c t (not-true _ h)

-- the last byte of a text that ends with `, `
last_of_two : (y : List ℕ) → get_or (y ++ (44 ∷ 32 ∷ [])) (length (y ++ (44 ∷ 32 ∷ [])) - 1) 0 ≡ 32
last_of_two y =
    let n : length (y ++ (44 ∷ 32 ∷ [])) - 1 ≡ length y + 1 = omega (arith, length-append y (44 ∷ 32 ∷ [])) in
    ap (λ i. get_or (y ++ (44 ∷ 32 ∷ [])) i 0) n ∙ get_or-append-add y (44 ∷ 32 ∷ []) 1 0

pub comma_last : (t : List ℕ) → ends_with eqb t (codes ", ") ≡ true → get_or t (length t - 1) 0 ≡ 32
comma_last t h = ap (λ (x : List ℕ). get_or x (length x - 1) 0) (ends_ok (codes ", ") t h) ∙ last_of_two (take (length t - length (codes ", ")) t)

pub blank_last : (t : List ℕ) → ends_with eqb t (codes " ") ≡ true → get_or t (length t - 1) 0 ≡ 32
blank_last t h = ap (λ (x : List ℕ). get_or x (length x - 1) 0) (ends_ok (codes " ") t h) ∙ last_of_one (take (length t - length (codes " ")) t)
  where
    last_of_one : (y : List ℕ) → get_or (y ++ (32 ∷ [])) (length (y ++ (32 ∷ [])) - 1) 0 ≡ 32
    last_of_one y =
        let n : length (y ++ (32 ∷ [])) - 1 ≡ length y + 0 = omega (arith, length-append y (32 ∷ [])) in
        ap (λ i. get_or (y ++ (32 ∷ [])) i 0) n ∙ get_or-append-add y (32 ∷ []) 0 0

pub empty_is : (t : List ℕ) → (length t == 0) ≡ true → t ≡ []
empty_is [] h = refl
empty_is (b ∷ t) h = absurd (omega (arith, eqb-true (length (b ∷ t)) 0 h))
