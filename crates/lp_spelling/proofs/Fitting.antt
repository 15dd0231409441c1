-- What may stand in a hole.
use denote.Ref.{Bor}
use Rattle.std.proofs.Common.{◌≡◌, ◌↔◌, ℕ, ◌+◌, ◌^◌, ◌<◌, ◌≤◌, suc, Bool, true, false, ◌&&◌, inl, inr, ⊎_elim, List, [], ◌∷◌, length, get_or, drop, Option, Some, None, Result, Ok, Err, IsTrue, refl, sym, ◌∙◌, ap, arith, eqb, ltb, length-append, length-drop, subst}
use Rattle.std.proofs.Math.Dec.{leb}
use Rattle.std.specs.List.{list_all, starts_with}
use Rattle.std.specs.Option.{IfSome, option_copied}
use Rattle.std.specs.Result.{IfOk, OkIff, is_ok}
use Rattle.std.specs.Str.{IsUtf8, is_utf8}
use Rattle.std.specs.Str.Parse.{AllDigits, IsNumeral, digits_value, without_leading_plus, ParsesUnsigned}
use Rattle.std.proofs.lemmas.Bool.{and_parts, or_cases, cases_Bool, cond-true, cond-false, eqb-true, ltb-true, lt-ltb, leb-true, ne_eqb, false_from_ne_true, both_ways}
use Rattle.std.proofs.lemmas.List.{at_drop_more, at_drop_all, drop_more}
use Rattle.std.proofs.lemmas.Str.{digit_value_digit, IsUtf8-from_ascii, IsUtf8-from_is_utf8, is_utf8-from_IsUtf8}
use Rattle.std.proofs.lemmas.Fmt.{IsAscii-from_digits}
use Rattle.lp_form.specs.declared.template.Kind.{Kind}
use Rattle.lp_texts.specs.Identifiers.{is_identifier}
use Rattle.lp_texts.specs.OneLine.{IsOneLine}
use Rattle.lp_spelling.specs.declared.fill.Element.{Element}
use Rattle.lp_spelling.specs.HoleEnds.{first_at, place, is_digit}
use Rattle.lp_spelling.specs.Fillings.{is_number, holds, part_before, part_behind, is_element, joined_within, is_escape, is_fitting, fits_behind, has_shape, line_part, Fits}
use Rattle.lp_spelling.proofs.Reading.{starts_ok}

-- where a text stands in another, it ends within it
pub first_le : (test : List ℕ → Bool) (text : List ℕ) → first_at test text ≤ length text
unfolding first_at
first_le test [] = omega arith
first_le test (b ∷ t) = elim (cases_Bool (test (b ∷ t))) [
  | inl y ↦ rw (cond-true (test (b ∷ t)) 0 (suc (first_at test t)) y) (omega arith)
  | inr n ↦ let h = first_le test t in rw (cond-false (test (b ∷ t)) 0 (suc (first_at test t)) n) (omega (arith, h))
]

pub first_passes : (test : List ℕ → Bool) (text : List ℕ) → first_at test text < length text → test (drop (first_at test text) text) ≡ true
unfolding first_at
first_passes test [] h = absurd (omega arith)
first_passes test (b ∷ t) h = elim (cases_Bool (test (b ∷ t))) [
  | inl y ↦
      let e : first_at test (b ∷ t) ≡ 0 = cond-true (test (b ∷ t)) _ _ y in
      ap (λ n. test (drop n (b ∷ t))) e ∙ y
  | inr n ↦
      let e : first_at test (b ∷ t) ≡ suc (first_at test t) = cond-false (test (b ∷ t)) _ _ n in
      ap (λ n. test (drop n (b ∷ t))) e ∙ first_passes test t (omega (arith, e, h))
]

starts_len : (s t : List ℕ) → starts_with eqb t s ≡ true → length s ≤ length t
starts_len s t h = let e = ap length (starts_ok s t h) in let l = length-append s (drop (length s) t) in omega (arith, e, l)

pub behind_fits : (sought text : List ℕ) → holds sought text ≡ true → place sought text + length sought ≤ length text
unfolding holds
behind_fits sought text h =
    let test : List ℕ → Bool = λ t. starts_with eqb t sought in
    let within = first_le test text in
    ⊎_elim
    (λ e. omega (arith, within, eqb-true (length sought) 0 e))
    (λ l.
    let lt = ltb-true (place sought text) (length text) l in
    let s = starts_len sought (drop (place sought text) text) (first_passes test text lt) in
    let d = length-drop (place sought text) text in
    omega (arith, s, d, within))
    (or_cases (eqb (length sought) 0) (ltb (place sought text) (length text)) h)

-- decimal digits
pub all_digits : (text : List ℕ) → list_all is_digit text ≡ true → AllDigits 10 text
all_digits [] h = tt
all_digits (b ∷ t) h =
    let p = and_parts (is_digit b) (list_all is_digit t) h in
    let q = and_parts (leb 48 b) (leb b 57) p.0 in
    let v = digit_value_digit b (leb-true 48 b q.0, leb-true b 57 q.1) in
    let top = leb-true b 57 q.1 in
    (omega (arith, v, top), all_digits t p.1)

-- what a number's text is
pub number_parts : (text : List ℕ) → is_number text ≡ true → (0 < length text) × (list_all is_digit text ≡ true)
unfolding is_number
number_parts text h =
    let p = and_parts (ltb 0 (length text)) _ h in
    let q = and_parts (list_all is_digit text) _ p.1 in
    (ltb-true 0 (length text) p.0, q.0)

pub digits_utf8 : (text : List ℕ) → list_all is_digit text ≡ true → IsUtf8 text
digits_utf8 text h = IsUtf8-from_ascii text (IsAscii-from_digits text (all_digits text h))

no_plus : (text : List ℕ) → 0 < length text → list_all is_digit text ≡ true → without_leading_plus text ≡ text
no_plus [] l h = absurd (omega arith)
no_plus (b ∷ t) l h =
    let p = and_parts (is_digit b) (list_all is_digit t) h in
    let q = and_parts (leb 48 b) (leb b 57) p.0 in
    let low = leb-true 48 b q.0 in
    ap (λ n. drop n (b ∷ t)) (cond-false (eqb b 43) 1 0 (ne_eqb b 43 (λ e. absurd (omega (arith, e, low)))))

decided : {E : Type 0} (text : List ℕ) (r : Result ℕ E) (P : Type 0) → P → OkIff r (P × (digits_value 10 text < 2 ^ 64)) (digits_value 10 text) →
    is_ok r ≡ ltb (digits_value 10 text) (2 ^ 64)
decided text (Ok n) P p h = sym (lt-ltb (digits_value 10 text) (2 ^ 64) h.0.1)
decided text (Err e) P p h = sym (false_from_ne_true _ (λ t. h (p, ltb-true (digits_value 10 text) (2 ^ 64) t)))

pub fits_of : {E : Type 0} (text s : List ℕ) (r : Result ℕ E) (b : Bool) → s ≡ text → 0 < length text → list_all is_digit text ≡ true → ParsesUnsigned 64 10 s r → b ≡ is_ok r →
    b ≡ ltb (digits_value 10 text) (2 ^ 64)
fits_of text s r b e l h p i =
    let same : without_leading_plus s ≡ text = ap without_leading_plus e ∙ no_plus text l h in
    let q : OkIff r (IsNumeral 10 text × (digits_value 10 text < 2 ^ 64)) (digits_value 10 text)
    = subst (λ (ds : List ℕ). OkIff r (IsNumeral 10 ds × (digits_value 10 ds < 2 ^ 64)) (digits_value 10 ds)) same p in
    i ∙ decided text r (IsNumeral 10 text) (l, all_digits text h) q

-- identifiers
pub name_read : (text s : List ℕ) (b : Bool) → s ≡ text → IsUtf8 text → b ≡ is_identifier s → b ≡ (is_utf8 text && is_identifier text)
name_read text s b e u h = h ∙ ap is_identifier e ∙ sym (ap (λ x. x && is_identifier text) (is_utf8-from_IsUtf8 text u))

pub name_wrong : (text : List ℕ) → (IsUtf8 text → ⊥) → false ≡ (is_utf8 text && is_identifier text)
name_wrong text h = sym (ap (λ x. x && is_identifier text) (false_from_ne_true (is_utf8 text) (λ t. h (IsUtf8-from_is_utf8 text t))))

-- the elements of a joined list
pub joined_more : (m n : ℕ) (prefix : List ℕ) (element : Element) (separator text : List ℕ) → m ≡ n + 1 → holds separator text ≡ true →
    is_element prefix element (part_before separator text) ≡ true → joined_within m prefix element separator text ≡ joined_within n prefix element separator (part_behind separator text)
unfolding joined_within
joined_more m n prefix element separator text e h y =
    let next : m ≡ suc n = omega (arith, e) in
    ap (λ k. joined_within k prefix element separator text) next ∙ cond-true (holds separator text) _ _ h
    ∙ ap (λ b. b && joined_within n prefix element separator (part_behind separator text)) y

pub joined_wrong : (m n : ℕ) (prefix : List ℕ) (element : Element) (separator text : List ℕ) → m ≡ n + 1 → holds separator text ≡ true →
    is_element prefix element (part_before separator text) ≡ false → joined_within m prefix element separator text ≡ false
unfolding joined_within
joined_wrong m n prefix element separator text e h y =
    let next : m ≡ suc n = omega (arith, e) in
    ap (λ k. joined_within k prefix element separator text) next ∙ cond-true (holds separator text) _ _ h
    ∙ ap (λ b. b && joined_within n prefix element separator (part_behind separator text)) y

pub joined_last : (m n : ℕ) (prefix : List ℕ) (element : Element) (separator text : List ℕ) → m ≡ n + 1 → holds separator text ≡ false →
    joined_within m prefix element separator text ≡ is_element prefix element text
unfolding joined_within
joined_last m n prefix element separator text e h =
    let next : m ≡ suc n = omega (arith, e) in
    ap (λ k. joined_within k prefix element separator text) next ∙ cond-false (holds separator text) _ _ h

pub joined_over : (m : ℕ) (prefix : List ℕ) (element : Element) (separator text : List ℕ) → m ≡ 0 → joined_within m prefix element separator text ≡ false
unfolding joined_within
joined_over m prefix element separator text e = ap (λ k. joined_within k prefix element separator text) e

-- bytes that all pass
pub escape_more : (text : List ℕ) (i : ℕ) → i < length text → is_escape (get_or text i 0) ≡ true → list_all is_escape (drop i text) ≡ list_all is_escape (drop (i + 1) text)
escape_more text i lt h = at_drop_more (list_all is_escape) text i 0 lt ∙ ap (λ b. b && list_all is_escape (drop (i + 1) text)) h

pub escape_stop : (text : List ℕ) (i : ℕ) → i < length text → is_escape (get_or text i 0) ≡ false → list_all is_escape (drop i text) ≡ false
escape_stop text i lt h = at_drop_more (list_all is_escape) text i 0 lt ∙ ap (λ b. b && list_all is_escape (drop (i + 1) text)) h

pub escape_over : (text : List ℕ) (i : ℕ) → length text ≤ i → list_all is_escape (drop i text) ≡ true
escape_over text i le = at_drop_all (list_all is_escape) text i le

pub ruleset escape_steps = (escape_more, escape_stop, escape_over)

-- prefixes that stand in the names of captures
pub fits_more : (prefix : List ℕ) (last : ℕ) (text : List ℕ) (i : ℕ) → i < length text → is_fitting prefix last (drop i text) ≡ true →
    fits_behind prefix last (drop i text) ≡ fits_behind prefix (get_or text i 0) (drop (i + 1) text)
unfolding fits_behind
fits_more prefix last text i lt h =
    let d : drop i text ≡ get_or text i 0 ∷ drop (i + 1) text = drop_more text i 0 lt in
    ap (fits_behind prefix last) d
    ∙ ap (λ b. b && fits_behind prefix (get_or text i 0) (drop (i + 1) text)) (ap (is_fitting prefix last) (sym d) ∙ h)

pub fits_stop : (prefix : List ℕ) (last : ℕ) (text : List ℕ) (i : ℕ) → i < length text → is_fitting prefix last (drop i text) ≡ false → fits_behind prefix last (drop i text) ≡ false
unfolding fits_behind
fits_stop prefix last text i lt h =
    let d : drop i text ≡ get_or text i 0 ∷ drop (i + 1) text = drop_more text i 0 lt in
    ap (fits_behind prefix last) d
    ∙ ap (λ b. b && fits_behind prefix (get_or text i 0) (drop (i + 1) text)) (ap (is_fitting prefix last) (sym d) ∙ h)

pub fits_over : (prefix : List ℕ) (last : ℕ) (text : List ℕ) (i : ℕ) → length text ≤ i → fits_behind prefix last (drop i text) ≡ true
unfolding fits_behind
fits_over prefix last text i le = at_drop_all (fits_behind prefix last) text i le

-- whether a text may stand in a hole
pub fits_not : (prefix : List ℕ) (kind : Kind) (text : List ℕ) → has_shape prefix kind text ≡ false → IsTrue false ↔ Fits prefix kind text
unfolding Fits
fits_not prefix kind text h = (λ t. absurd (both_ways false refl t), λ f. absurd (both_ways (has_shape prefix kind text) h f.0))

pub fits_plain : (prefix : List ℕ) (kind : Kind) (text : List ℕ) (r : Option (Bor (List ℕ))) → has_shape prefix kind text ≡ true → option_copied r ≡ line_part kind text → r ≡ None →
    IsTrue true ↔ Fits prefix kind text
unfolding Fits
fits_plain prefix kind text r h e n =
    let none : line_part kind text ≡ None = sym e ∙ ap option_copied n in
    (λ t. (h, subst (λ (o : Option (List ℕ)). IfSome o IsOneLine) (sym none) tt), λ f. refl)

pub fits_line : {E : Type 0} (prefix : List ℕ) (kind : Kind) (text : List ℕ) (r : Option (Bor (List ℕ))) (line : Bor (List ℕ)) (q : Result Bool E) → has_shape prefix kind text ≡ true →
    option_copied r ≡ line_part kind text → r ≡ Some line → IfOk q (λ b. IsTrue b ↔ IsOneLine line.now) → IfOk q (λ b. IsTrue b ↔ Fits prefix kind text)
unfolding Fits
fits_line prefix kind text r line (Err e) h i s g = tt
fits_line prefix kind text r line (Ok b) h i s g =
    let some : line_part kind text ≡ Some line.now = sym i ∙ ap option_copied s in (
      λ t. (h, subst (λ (o : Option (List ℕ)). IfSome o IsOneLine) (sym some) (g.0 t)),
      λ f. g.1 (subst (λ (o : Option (List ℕ)). IfSome o IsOneLine) some f.1),
    )
