-- What fills a hole has no line feed.
use Rattle.std.proofs.Common.{◌≡◌, ℕ, ◌+◌, ◌-◌, ◌/◌, ◌%◌, ◌==◌, ◌≤◌, zero, suc, Bool, true, false, not, ◌||◌, List, [], ◌∷◌, ◌++◌, length, get_or, take, drop, codes, Some, None, IsTrue, refl, sym, ap, ◌∙◌, subst, arith, eqb, ltb, inl, inr, ⊎_elim, take-append-drop}
use Rattle.std.proofs.Math.Dec.{leb}
use Rattle.std.specs.List.{list_all, starts_with, ends_with}
use Rattle.std.specs.Option.{IfSome}
use Rattle.std.specs.Str.{IsUtf8, is_utf8, chars, encode_utf8_all, bytes_eq}
use Rattle.std.proofs.lemmas.Bool.{and_parts, and_from, or_cases, or_left, cases_Bool, cond-true, cond-false, cond_both, eqb-true, eq-eqb, ne_eqb, leb-true, ltb-true, ltb-false, le-ltb, not-true, not_from_false, both_ways}
use Rattle.std.proofs.lemmas.List.{drop-drop}
use Rattle.std.proofs.lemmas.List.Recursion.{and_from_places}
use Rattle.std.proofs.lemmas.Option.{slice_get-get_or}
use Rattle.std.proofs.lemmas.Slice.Eq.{bytes_eq-Decides}
use Rattle.std.proofs.lemmas.Str.{encodes-chars, IsUtf8-from_is_utf8}
use Rattle.unicode_ident.proofs.IdentLemmas.{is_xid_start-ascii, is_xid_continue-ascii}
use lib.Utf8.{encode}
use Rattle.lp_form.specs.declared.template.Kind.{Kind}
use Rattle.lp_form.specs.declared.template.Kind.TheVariants as kind
use Rattle.lp_tok.specs.Scans.{starts_word, continues_word}
use Rattle.lp_texts.specs.Identifiers.{is_identifier}
use Rattle.lp_texts.specs.OneLine.{IsOneLine, ends_line}
use Rattle.lp_texts.specs.OneLine.IsWrong.{line_end}
use Rattle.lp_spelling.specs.Counting.{is_text}
use Rattle.lp_spelling.specs.HoleEnds.{first_at, place, is_digit}
use Rattle.lp_spelling.specs.Fillings.{is_number, holds, is_name, is_own, is_argument, is_range, is_element, joined_within, is_joined, is_last, is_escape, are_parameters, are_several, are_captures, is_look, is_field, is_location, is_bare, has_shape, line_part, without_end, without_front, without_blank, part_before, part_behind, Fits}
use Rattle.lp_spelling.proofs.Reading.{starts_ok}
use Rattle.lp_spelling.proofs.Fitting.{first_passes, number_parts}
use Rattle.lp_reading_laws.specs.Printing.LineTexts.{is_on_line}
use Rattle.lp_reading_laws.proofs.Printing.Lining.{on_line-append}

on_line-if : (p : ℕ → Bool) → ((b : ℕ) → p b ≡ true → is_text b ≡ true) → (t : List ℕ) → list_all p t ≡ true → is_on_line t ≡ true
on_line-if p f [] h = refl
on_line-if p f (b ∷ t) h =
    let q = and_parts (p b) (list_all p t) h in
    and_from (is_text b) (is_on_line t) (f b q.0) (on_line-if p f t q.1)

text-from : (b : ℕ) → (b ≡ 10 → ⊥) → is_text b ≡ true
text-from b h = not_from_false (b == 10) (ne_eqb b 10 h)

-- characters
high : (m n : ℕ) → 128 ≤ m → is_text (m + n) ≡ true
high m n h = text-from (m + n) (λ e. omega (arith, e, h))

encode-on_line : (c : ℕ) → (c ≡ 10 → ⊥) → is_on_line (encode c) ≡ true
unfolding encode
encode-on_line c h =
    cond_both (ltb c 128) (c ∷ []) _ (λ (x : List ℕ). is_on_line x ≡ true)
    (λ a. and_from (is_text c) true (text-from c h) refl)
    (λ a.
    cond_both (ltb c 2048) _ _ (λ (x : List ℕ). is_on_line x ≡ true)
    (λ b. and_from _ _ (high 192 (c / 64) (omega arith)) (and_from _ true (high 128 (c % 64) (omega arith)) refl))
    (λ b.
    cond_both (ltb c 65536) _ _ (λ (x : List ℕ). is_on_line x ≡ true)
    (λ d. and_from _ _ (high 224 (c / 4096) (omega arith)) (and_from _ _ (high 128 (c / 64 % 64) (omega arith)) (and_from _ true (high 128 (c % 64) (omega arith)) refl)))
    (λ d.
    and_from _ _ (high 240 (c / 262144) (omega arith))
    (and_from _ _ (high 128 (c / 4096 % 64) (omega arith)) (and_from _ _ (high 128 (c / 64 % 64) (omega arith)) (and_from _ true (high 128 (c % 64) (omega arith)) refl))))))

starts-text : (c : ℕ) → starts_word c ≡ true → c ≡ 10 → ⊥
starts-text c h e =
    let at : starts_word 10 ≡ true = sym (ap starts_word e) ∙ h in
    let no : starts_word 10 ≡ false = ap (λ x. x || (10 == 95)) (is_xid_start-ascii 10 (omega arith)) in
    both_ways (starts_word 10) no at

continues-text : (c : ℕ) → continues_word c ≡ true → c ≡ 10 → ⊥
continues-text c h e =
    let at : continues_word 10 ≡ true = sym (ap continues_word e) ∙ h in
    let no : continues_word 10 ≡ false = ap (λ x. x || (10 == 95)) (is_xid_continue-ascii 10 (omega arith)) in
    both_ways (continues_word 10) no at

continue-on_line : (cs : List ℕ) → list_all continues_word cs ≡ true → is_on_line (encode_utf8_all cs) ≡ true
continue-on_line [] h = refl
continue-on_line (c ∷ cs) h =
    let p = and_parts (continues_word c) (list_all continues_word cs) h in
    on_line-append (encode c) (encode_utf8_all cs) (encode-on_line c (continues-text c p.0)) (continue-on_line cs p.1)

word-on_line : (cs : List ℕ) → Rattle.lp_texts.specs.Identifiers.is_word cs ≡ true → is_on_line (encode_utf8_all cs) ≡ true
word-on_line [] h = refl
word-on_line (c ∷ cs) h =
    let p = and_parts (starts_word c) (list_all continues_word cs) h in
    on_line-append (encode c) (encode_utf8_all cs) (encode-on_line c (starts-text c p.0)) (continue-on_line cs p.1)

pub words-on_line : (text : List ℕ) → IsUtf8 text → Rattle.lp_texts.specs.Identifiers.is_word (chars text) ≡ true → is_on_line text ≡ true
words-on_line text u h = subst (λ x. is_on_line x ≡ true) (encodes-chars text u) (word-on_line (chars text) h)

pub identifier-on_line : (text : List ℕ) → IsUtf8 text → is_identifier text ≡ true → is_on_line text ≡ true
identifier-on_line text u h =
    let p = and_parts (not (Rattle.lp_repr.specs.Names.same_text text (codes "_"))) (Rattle.lp_texts.specs.Identifiers.is_word (chars text)) h in
    words-on_line text u p.1

name-on_line : (text : List ℕ) → is_name text ≡ true → is_on_line text ≡ true
name-on_line text h =
    let p = and_parts (is_utf8 text) (is_identifier text) h in
    identifier-on_line text (IsUtf8-from_is_utf8 text p.0) p.1

-- texts of one line
pub one_line-on_line : (text : List ℕ) → IsOneLine text → is_on_line text ≡ true
one_line-on_line text h =
    and_from_places (λ x. list_all is_text x) is_text refl (λ x xs. refl) text 0
    (λ i lt.
    text-from (get_or text i 0)
    (λ e.
    let ends : IsTrue (ends_line (get_or text i 0)) = or_left (get_or text i 0 == 10) _ (eq-eqb (get_or text i 0) 10 e) in
    h i (line_end (get_or text i 0) (slice_get-get_or text i 0 lt) ends)))

-- texts that hold no line feed
feed_free : (t : List ℕ) → ltb (place (codes "\n") t) (length t) ≡ false → is_on_line t ≡ true
unfolding first_at
feed_free [] h = refl
feed_free (b ∷ t) h = elim (cases_Bool (starts_with eqb (b ∷ t) (codes "\n"))) [
  | inl y ↦
      let e : place (codes "\n") (b ∷ t) ≡ 0 = cond-true (starts_with eqb (b ∷ t) (codes "\n")) _ _ y in
      let over = ltb-false (place (codes "\n") (b ∷ t)) (length (b ∷ t)) h in
      absurd (omega (arith, e, over))
  | inr n ↦
      let e : place (codes "\n") (b ∷ t) ≡ suc (place (codes "\n") t) = cond-false (starts_with eqb (b ∷ t) (codes "\n")) _ _ n in
      let over = ltb-false (place (codes "\n") (b ∷ t)) (length (b ∷ t)) h in
      let rest = feed_free t (le-ltb (place (codes "\n") t) (length t) (omega (arith, e, over))) in
      and_from (is_text b) (is_on_line t) (text-from b (λ k. both_ways _ n (and_from (10 == b) true (eq-eqb 10 b (sym k)) refl))) rest
]

holds_none : (t : List ℕ) → not (holds (codes "\n") t) ≡ true → is_on_line t ≡ true
unfolding holds
holds_none t h = feed_free t (not-true _ h)

-- digits
digit-text : (b : ℕ) → is_digit b ≡ true → is_text b ≡ true
digit-text b h =
    let q = and_parts (leb 48 b) (leb b 57) h in
    let low = leb-true 48 b q.0 in
    text-from b (λ e. omega (arith, e, low))

pub digits-on_line : (text : List ℕ) → list_all is_digit text ≡ true → is_on_line text ≡ true
digits-on_line text h = on_line-if is_digit digit-text text h

number-on_line : (text : List ℕ) → is_number text ≡ true → is_on_line text ≡ true
number-on_line text h = on_line-if is_digit digit-text text (number_parts text h).1

escape-text : (b : ℕ) → is_escape b ≡ true → is_text b ≡ true
escape-text b h = text-from b (λ e. both_ways (is_escape 10) refl (sym (ap is_escape e) ∙ h))

-- texts in parts
pub ends_ok : (s t : List ℕ) → ends_with eqb t s ≡ true → t ≡ take (length t - length s) t ++ s
ends_ok s t h =
    let e : s ≡ drop (length t - length s) t = (bytes_eq-Decides s (drop (length t - length s) t)).0 h in
    sym (take-append-drop (length t - length s) t) ∙ ap (λ x. take (length t - length s) t ++ x) (sym e)

pub split_at : (s t : List ℕ) → ltb (place s t) (length t) ≡ true → t ≡ part_before s t ++ (s ++ part_behind s t)
split_at s t h =
    let test : List ℕ → Bool = λ x. starts_with eqb x s in
    let there : drop (place s t) t ≡ s ++ drop (length s) (drop (place s t) t) = starts_ok s (drop (place s t) t) (first_passes test t (ltb-true (place s t) (length t) h)) in
    sym (take-append-drop (place s t) t) ∙ ap (λ x. take (place s t) t ++ x) (there ∙ ap (λ x. s ++ x) (drop-drop (length s) (place s t) t))

in_parts : (t a b : List ℕ) → t ≡ a ++ b → is_on_line a ≡ true → is_on_line b ≡ true → is_on_line t ≡ true
in_parts t a b e h k = ap is_on_line e ∙ on_line-append a b h k

holds_first : (s : List ℕ) (b : ℕ) (t : List ℕ) → holds (b ∷ s) t ≡ true → ltb (place (b ∷ s) t) (length t) ≡ true
unfolding holds
holds_first s b t h = ⊎_elim (λ e. absurd (omega (arith, eqb-true (length (b ∷ s)) 0 e))) (λ l. l) (or_cases (length (b ∷ s) == 0) (ltb (place (b ∷ s) t) (length t)) h)

split_on_line : (b : ℕ) (s t : List ℕ) → holds (b ∷ s) t ≡ true → is_on_line (b ∷ s) ≡ true → is_on_line (part_before (b ∷ s) t) ≡ true → is_on_line (part_behind (b ∷ s) t) ≡ true → is_on_line t ≡ true
split_on_line b s t h o x y = in_parts t (part_before (b ∷ s) t) ((b ∷ s) ++ part_behind (b ∷ s) t) (split_at (b ∷ s) t (holds_first s b t h)) x (on_line-append (b ∷ s) (part_behind (b ∷ s) t) o y)

front_on_line : (s t : List ℕ) → starts_with eqb t s ≡ true → is_on_line s ≡ true → is_on_line (without_front s t) ≡ true → is_on_line t ≡ true
front_on_line s t h o x = in_parts t s (without_front s t) (starts_ok s t h) o x

end_on_line : (s t : List ℕ) → ends_with eqb t s ≡ true → is_on_line s ≡ true → is_on_line (without_end s t) ≡ true → is_on_line t ≡ true
end_on_line s t h o x = in_parts t (without_end s t) s (ends_ok s t h) x o

-- elements
argument-on_line : (t : List ℕ) → is_argument t ≡ true → is_on_line t ≡ true
argument-on_line t h = elim (cases_Bool (starts_with eqb t (codes "&"))) [
  | inl y ↦ front_on_line (codes "&") t y refl (name-on_line (without_front (codes "&") t) (sym (cond-true (starts_with eqb t (codes "&")) _ _ y) ∙ h))
  | inr n ↦ name-on_line t (sym (cond-false (starts_with eqb t (codes "&")) _ _ n) ∙ h)
]

range-on_line : (t : List ℕ) → is_range t ≡ true → is_on_line t ≡ true
range-on_line t h = elim (cases_Bool (holds (codes "..=") t)) [
  | inl y ↦
      let p = and_parts (is_number (part_before (codes "..=") t)) (is_number (part_behind (codes "..=") t)) (sym (cond-true (holds (codes "..=") t) _ _ y) ∙ h) in
      split_on_line 46 (codes ".=") t y refl (number-on_line (part_before (codes "..=") t) p.0) (number-on_line (part_behind (codes "..=") t) p.1)
  | inr n ↦ number-on_line t (sym (cond-false (holds (codes "..=") t) _ _ n) ∙ h)
]

own-on_line : (prefix t : List ℕ) → is_own prefix t ≡ true → is_on_line t ≡ true
own-on_line prefix t h = name-on_line t (and_parts (starts_with eqb t prefix) (is_name t) h).1

joined-on_line : (n : ℕ) (prefix : List ℕ) (e : _) (b : ℕ) (s t : List ℕ) → ((x : List ℕ) → is_element prefix e x ≡ true → is_on_line x ≡ true) → is_on_line (b ∷ s) ≡ true → joined_within n prefix e (b ∷ s) t ≡ true → is_on_line t ≡ true
unfolding joined_within
joined-on_line zero prefix e b s t f o h = absurd (both_ways false refl h)
joined-on_line (suc n) prefix e b s t f o h = elim (cases_Bool (holds (b ∷ s) t)) [
  | inl y ↦
      let p = and_parts (is_element prefix e (part_before (b ∷ s) t)) (joined_within n prefix e (b ∷ s) (part_behind (b ∷ s) t)) (sym (cond-true (holds (b ∷ s) t) _ _ y) ∙ h) in
      split_on_line b s t y o (f (part_before (b ∷ s) t) p.0) (joined-on_line n prefix e b s (part_behind (b ∷ s) t) f o p.1)
  | inr n ↦ f t (sym (cond-false (holds (b ∷ s) t) _ _ n) ∙ h)
]

are_joined : (prefix : List ℕ) (e : _) (b : ℕ) (s t : List ℕ) → ((x : List ℕ) → is_element prefix e x ≡ true → is_on_line x ≡ true) → is_on_line (b ∷ s) ≡ true →
    is_joined prefix e (b ∷ s) t ≡ true → is_on_line t ≡ true
unfolding is_joined
are_joined prefix e b s t f o h = joined-on_line (length t) prefix e b s t f o h

-- a hole's text by its shape
several-on_line : (prefix t : List ℕ) → are_several prefix t ≡ true → is_on_line t ≡ true
unfolding is_element
several-on_line prefix t h =
    let p = and_parts (ends_with eqb t (codes ")")) _ h in
    let q = and_parts (holds (codes ", ") (without_end (codes ")") t)) _ p.1 in
    end_on_line (codes ")") t p.0 refl (are_joined prefix _ 44 (codes " ") (without_end (codes ")") t) (λ x k. own-on_line prefix x k) refl q.1)

captures-on_line : (prefix t : List ℕ) → are_captures prefix t ≡ true → is_on_line t ≡ true
captures-on_line prefix t h = elim (cases_Bool (starts_with eqb t (codes "("))) [
  | inl y ↦ front_on_line (codes "(") t y refl (several-on_line prefix (without_front (codes "(") t) (sym (cond-true (starts_with eqb t (codes "(")) _ _ y) ∙ h))
  | inr n ↦ own-on_line prefix t (sym (cond-false (starts_with eqb t (codes "(")) _ _ n) ∙ h)
]

is_it : (s t : List ℕ) → bytes_eq t s ≡ true → is_on_line s ≡ true → is_on_line t ≡ true
is_it s t h o = ap is_on_line ((bytes_eq-Decides t s).0 h) ∙ o

empty-on_line : (t : List ℕ) → (length t == 0) ≡ true → is_on_line t ≡ true
empty-on_line [] h = refl
empty-on_line (b ∷ t) h = absurd (omega (arith, eqb-true (length (b ∷ t)) 0 h))

parameters-on_line : (prefix t : List ℕ) → are_parameters prefix t ≡ true → is_on_line t ≡ true
unfolding is_element
parameters-on_line prefix t h =
    ⊎_elim
    (λ e. empty-on_line t e)
    (λ k.
    let p = and_parts (ends_with eqb t (codes ", ")) _ k in
    let q = and_parts (is_joined prefix _ (codes ", ") (without_end (codes ", ") t)) _ p.1 in
    end_on_line (codes ", ") t p.0 refl (are_joined prefix _ 44 (codes " ") (without_end (codes ", ") t) (λ x e. argument-on_line x e) refl q.0))
    (or_cases (length t == 0) _ h)

look-on_line : (prefix t : List ℕ) → is_on_line prefix ≡ true → is_look prefix t ≡ true → is_on_line t ≡ true
look-on_line prefix t o h =
    let p = and_parts (starts_with eqb t prefix) _ h in
    front_on_line prefix t p.0 o
    (⊎_elim (λ e. is_it (codes "lookbehind") (without_front prefix t) e refl) (λ e. is_it (codes "lookahead") (without_front prefix t) e refl) (or_cases (bytes_eq (without_front prefix t) (codes "lookbehind")) _ p.1))

field-on_line : (t : List ℕ) → is_field t ≡ true → is_on_line t ≡ true
field-on_line t h =
    let p = and_parts (holds (codes ".") t) _ h in
    let q = and_parts (is_number (part_before (codes ".") t)) _ p.1 in
    split_on_line 46 [] t p.0 refl (number-on_line (part_before (codes ".") t) q.0)
    (⊎_elim (λ e. is_it (codes "0") (part_behind (codes ".") t) e refl) (λ e. is_it (codes "2") (part_behind (codes ".") t) e refl) (or_cases (bytes_eq (part_behind (codes ".") t) (codes "0")) _ q.1))

location-on_line : (prefix t : List ℕ) → is_on_line prefix ≡ true → is_location prefix t ≡ true → is_on_line t ≡ true
location-on_line prefix t o h = elim (cases_Bool (starts_with eqb t (codes "*"))) [
  | inl y ↦ front_on_line (codes "*") t y refl (look-on_line prefix (without_front (codes "*") t) o (sym (cond-true (starts_with eqb t (codes "*")) _ _ y) ∙ h))
  | inr n ↦
      let p = and_parts (starts_with eqb t prefix) _ (sym (cond-false (starts_with eqb t (codes "*")) _ _ n) ∙ h) in
      front_on_line prefix t p.0 o (field-on_line (without_front prefix t) p.1)
]

last-on_line : (t : List ℕ) → is_last t ≡ true → is_on_line t ≡ true
last-on_line t h =
    ⊎_elim
    (λ e. is_it (codes "0") t e refl)
    (λ k.
    let p = and_parts (ends_with eqb t (codes " - 1")) _ k in
    end_on_line (codes " - 1") t p.0 refl (number-on_line (without_end (codes " - 1") t) (and_parts (is_number (without_end (codes " - 1") t)) _ p.1).0))
    (or_cases (bytes_eq t (codes "0")) _ h)

bare-on_line : (t : List ℕ) → is_bare t ≡ true → is_on_line t ≡ true
bare-on_line t h = ⊎_elim (λ e. empty-on_line t e) (λ e. is_it (codes "pub ") t e refl) (or_cases (length t == 0) _ h)

blank-on_line : (t : List ℕ) → is_on_line (without_blank t) ≡ true → is_on_line t ≡ true
blank-on_line t h = elim (cases_Bool (ends_with eqb t (codes " "))) [
  | inl y ↦ end_on_line (codes " ") t y refl (ap is_on_line (sym (cond-true (ends_with eqb t (codes " ")) _ _ y)) ∙ h)
  | inr n ↦ ap is_on_line (sym (cond-false (ends_with eqb t (codes " ")) _ _ n)) ∙ h
]

visibility-on_line : (prefix t : List ℕ) → Fits prefix kind.Visibility t → is_on_line t ≡ true
unfolding Fits has_shape line_part
visibility-on_line prefix t f = elim (cases_Bool (is_bare t)) [
  | inl y ↦ bare-on_line t y
  | inr n ↦ blank-on_line t (one_line-on_line (without_blank t) (subst (λ o. IfSome o IsOneLine) (cond-false (is_bare t) None (Some (without_blank t)) n) f.1))
]

-- whatever fills a hole
pub fits-on_line : (prefix : List ℕ) (k : Kind) (t : List ℕ) → is_on_line prefix ≡ true → Fits prefix k t → is_on_line t ≡ true
unfolding Fits has_shape line_part is_element
fits-on_line prefix kind.Name t o f = name-on_line t f.0
fits-on_line prefix kind.PlainName t o f = name-on_line t (and_parts (is_name t) _ f.0).0
fits-on_line prefix kind.Number t o f = number-on_line t f.0
fits-on_line prefix kind.NotOne t o f = number-on_line t (and_parts (is_number t) _ f.0).0
fits-on_line prefix kind.Last t o f = last-on_line t f.0
fits-on_line prefix kind.Escaped t o f = on_line-if is_escape escape-text t f.0
fits-on_line prefix kind.Attribute t o f = holds_none t (and_parts (ends_with eqb t (codes "]")) _ (and_parts (starts_with eqb t (codes "#![")) _ f.0).1).1
fits-on_line prefix kind.Terminal t o f = holds_none t (and_parts (not (holds (codes "\n") t)) _ f.0).0
fits-on_line prefix kind.Literal t o f = holds_none t (and_parts (ends_with eqb t (codes "\"")) _ (and_parts (starts_with eqb t (codes "\"")) _ (and_parts (ltb 1 (length t)) _ f.0).1).1).1
fits-on_line prefix kind.Visibility t o f = visibility-on_line prefix t f
fits-on_line prefix kind.Text t o f = one_line-on_line t f.1
fits-on_line prefix kind.Generics t o f = one_line-on_line t f.1
fits-on_line prefix kind.Filled t o f = one_line-on_line t f.1
fits-on_line prefix kind.Patterns t o f = one_line-on_line t f.1
fits-on_line prefix kind.Pattern t o f = one_line-on_line t f.1
fits-on_line prefix kind.Result t o f = one_line-on_line t f.1
fits-on_line prefix kind.Numbers t o f = are_joined prefix _ 32 (codes "| ") t (λ x e. number-on_line x e) refl f.0
fits-on_line prefix kind.Ranges t o f = are_joined prefix _ 32 (codes "| ") t (λ x e. range-on_line x e) refl f.0
fits-on_line prefix kind.Arguments t o f = are_joined prefix _ 44 (codes " ") t (λ x e. argument-on_line x e) refl f.0
fits-on_line prefix kind.Argument t o f = argument-on_line t f.0
fits-on_line prefix kind.Symbols t o f = are_joined prefix _ 44 (codes " ") t (λ x e. own-on_line prefix x e) refl f.0
fits-on_line prefix kind.Names t o f = are_joined prefix _ 44 (codes " ") t (λ x e. own-on_line prefix x e) refl f.0
fits-on_line prefix kind.Captures t o f = captures-on_line prefix t f.0
fits-on_line prefix kind.Parameters t o f = parameters-on_line prefix t f.0
fits-on_line prefix kind.Location t o f = location-on_line prefix t o f.0
