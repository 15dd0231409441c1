-- The fronts of lines: no blank, and no comment.
use Rattle.std.proofs.Common.{◌≡◌, ℕ, ◌+◌, ◌-◌, ◌==◌, ◌<◌, ◌≤◌, zero, suc, Bool, true, false, not, cond, ◌&&◌, ◌||◌, if◌then◌else◌, List, [], ◌∷◌, ◌++◌, length, get_or, take, drop, codes, Some, None, IsTrue, refl, sym, ap, ◌∙◌, subst, arith, eqb, ltb, inl, inr, ◌⊎◌, ⊎_elim}
use Rattle.std.proofs.Math.Dec.{leb}
use Rattle.std.specs.List.{list_all, starts_with, ends_with}
use Rattle.std.specs.Char.{is_whitespace}
use Rattle.std.specs.Str.{IsUtf8, is_utf8, chars, continuation_len, chars_after, lead_bits}
use Rattle.std.proofs.lemmas.Bool.{and_parts, and_from, and_left, and_right, or_cases, or_from, cond-true, eqb-true, eqb-false, ne_eqb, leb-true, ltb-true, lt-ltb, le-ltb, not-true, not_from_false, both_ways, false_from_ne_true, cases_lt, cases_eq}
use Rattle.std.proofs.lemmas.Str.{chars-append, chars-nil, IsUtf8-from_is_utf8}
use Rattle.unicode_ident.proofs.Computing.{unicode_ident}
use Rattle.lp_tok.specs.Scans.{starts_word}
use Rattle.lp_texts.specs.Brackets.Leads.{leads_none}
use Rattle.lp_texts.specs.OneLine.{IsOneLine, begins, is_wrong}
use Rattle.lp_texts.specs.OneLine.IsWrong.{blank, outside}
use Rattle.lp_spelling.specs.Counting.{is_skipped}
use Rattle.lp_spelling.specs.HoleEnds.{is_digit, is_word}
use Rattle.lp_spelling.specs.Fillings.{is_escape}
use Rattle.lp_spelling.proofs.Reading.{starts_ok}
use Rattle.lp_reading_laws.specs.Printing.LineTests.{is_good}

-- a text that is not empty, and begins with no blank and no `/`
pub record Solid (t : List ℕ) : Type 0 where
  pub some : 0 < length t
  pub shown : begins is_whitespace (chars t) ≡ false
  pub plain : begins (λ b. b == 47) t ≡ false

-- one that begins with no blank and no comment
pub record Loose (t : List ℕ) : Type 0 where
  pub shown : begins is_whitespace (chars t) ≡ false
  pub plain : starts_with eqb t (codes "//") ≡ false

pub ascii_begins : (test : ℕ → Bool) (b : ℕ) (x : List ℕ) → b < 128 → begins test (chars (b ∷ x)) ≡ test b
unfolding chars
ascii_begins test b [] h =
    let k : continuation_len b ≡ 0 = cond-true (ltb b 128) 0 _ (lt-ltb b 128 h) in
    let l : lead_bits b ≡ b = cond-true (ltb b 128) b _ (lt-ltb b 128 h) in
    ap (λ n. begins test (chars_after n (lead_bits b) [])) k ∙ ap test l
ascii_begins test b (c ∷ x) h =
    let k : continuation_len b ≡ 0 = cond-true (ltb b 128) 0 _ (lt-ltb b 128 h) in
    let l : lead_bits b ≡ b = cond-true (ltb b 128) b _ (lt-ltb b 128 h) in
    ap (λ n. begins test (chars_after n (lead_bits b) (c ∷ x))) k ∙ ap test l

pub good_solid : (b : ℕ) (x : List ℕ) → is_good b ≡ true → Solid (b ∷ x)
good_solid b x h =
    let p = and_parts (ltb b 128) _ h in
    let q = and_parts (not (is_whitespace b)) (not (b == 47)) p.1 in
    record {
      some = omega arith;
      shown = ascii_begins is_whitespace b x (ltb-true b 128 p.0) ∙ not-true (is_whitespace b) q.0;
      plain = not-true (b == 47) q.1;
    }

begins-append : (test : ℕ → Bool) (xs ys : List ℕ) → 0 < length xs → begins test (xs ++ ys) ≡ begins test xs
begins-append test [] ys h = absurd (omega arith)
begins-append test (x ∷ xs) ys h = refl

-- a text that is not empty has a character
pub chars_some : (t : List ℕ) → IsUtf8 t → 0 < length t → 0 < length (chars t)
chars_some t u h = elim (cases_lt 0 (length (chars t))) [
  | inl l ↦ l
  | inr z ↦
      let none : chars t ≡ [] = Rattle.std.proofs.lemmas.List.nil_from_length (chars t) (omega (arith, z)) in
      let same : t ≡ [] = sym (Rattle.std.proofs.lemmas.Str.encodes-chars t u) ∙ ap Rattle.std.specs.Str.encode_utf8_all none in
      absurd (omega (arith, ap length same, h))
]

pub solid_more : (t m : List ℕ) → IsUtf8 t → Solid t → Solid (t ++ m)
solid_more t m u s =
    let size = Rattle.std.proofs.Common.length-append t m in
    let more = s.some in
    record {
      some = omega (arith, size, more);
      shown = ap (begins is_whitespace) (chars-append t m u) ∙ begins-append is_whitespace (chars t) (chars m) (chars_some t u s.some) ∙ s.shown;
      plain = begins-append (λ b. b == 47) t m s.some ∙ s.plain;
    }

no_comment : (t : List ℕ) → begins (λ b. b == 47) t ≡ false → starts_with eqb t (codes "//") ≡ false
no_comment [] h = refl
no_comment (b ∷ t) h = and_left (eqb 47 b) _ (ne_eqb 47 b (λ e. eqb-false b 47 h (sym e)))

pub solid_loose : (t : List ℕ) → Solid t → Loose t
solid_loose t s = record { shown = s.shown; plain = no_comment t s.plain }

pub loose_counts : (t : List ℕ) → 0 < length t → Loose t → is_skipped t ≡ false
loose_counts t h l = or_from (length t == 0) _ (ne_eqb (length t) 0 (λ e. omega (arith, e, h))) l.plain

-- a text and a byte behind it
loose_plain : (t m : List ℕ) (b : ℕ) → starts_with eqb t (codes "//") ≡ false → (b == 47) ≡ false → starts_with eqb (t ++ b ∷ m) (codes "//") ≡ false
loose_plain [] m b h n = and_left (eqb 47 b) _ (ne_eqb 47 b (λ e. eqb-false b 47 n (sym e)))
loose_plain (x ∷ []) m b h n = and_right (eqb 47 x) _ (and_left (eqb 47 b) _ (ne_eqb 47 b (λ e. eqb-false b 47 n (sym e))))
loose_plain (x ∷ y ∷ t) m b h n = h

loose_shown : (t m : List ℕ) (b : ℕ) → IsUtf8 t → begins is_whitespace (chars t) ≡ false → (0 < length t) ⊎ (is_good b ≡ true) → begins is_whitespace (chars (t ++ b ∷ m)) ≡ false
loose_shown [] m b u h (inl l) = absurd (omega arith)
loose_shown [] m b u h (inr g) = (good_solid b m g).shown
loose_shown (x ∷ t) m b u h g =
    ap (begins is_whitespace) (chars-append (x ∷ t) (b ∷ m) u) ∙ begins-append is_whitespace (chars (x ∷ t)) (chars (b ∷ m)) (chars_some (x ∷ t) u (omega arith)) ∙ h

pub loose_more : (t m : List ℕ) (b : ℕ) → IsUtf8 t → Loose t → (b == 47) ≡ false → (0 < length t) ⊎ (is_good b ≡ true) → Loose (t ++ b ∷ m)
loose_more t m b u l n g = record { shown = loose_shown t m b u l.shown g; plain = loose_plain t m b l.plain n }

-- texts of one line
pub one_line_loose : (t : List ℕ) → IsOneLine t → Loose t
one_line_loose t h = record {
  shown = false_from_ne_true _ (λ y. h 0 (blank refl y));
  plain = false_from_ne_true _ (λ y.
      let e : t ≡ 47 ∷ 47 ∷ drop 2 t = starts_ok (codes "//") t y in
      let wrong : IsTrue (is_wrong false [] 47 (47 ∷ drop 2 t)) = refl in
      h 0 (outside 47 (47 ∷ drop 2 t) [] e (subst (λ x. Rattle.lp_texts.specs.Brackets.Leads t [] x []) e (leads_none t [])) wrong));
}

-- bytes that are no blank
between_good : (b : ℕ) → 48 ≤ b → b < 128 → is_good b ≡ true
between_good b lo hi =
    let ne = λ (n : ℕ) (k : (b ≡ n) → ⊥). ne_eqb b n k in
    let white : is_whitespace b ≡ false =
    or_from _ _ (or_from _ _ (or_from _ _ (or_from _ _ (or_from _ _ (or_from _ _ (or_from _ _ (or_from _ _ (or_from _ _ (or_from _ _
    (and_right (ltb 8 b) (ltb b 14) (le-ltb b 14 (omega arith)))
    (ne 32 (λ e. omega (arith, e)))) (ne 133 (λ e. omega (arith, e)))) (ne 160 (λ e. omega (arith, e)))) (ne 5760 (λ e. omega (arith, e))))
    (and_left (ltb 8191 b) (ltb b 8203) (le-ltb 8191 b (omega arith))))
    (ne 8232 (λ e. omega (arith, e)))) (ne 8233 (λ e. omega (arith, e)))) (ne 8239 (λ e. omega (arith, e)))) (ne 8287 (λ e. omega (arith, e)))) (ne 12288 (λ e. omega (arith, e))) in
    and_from (ltb b 128) _ (lt-ltb b 128 hi) (and_from _ _ (not_from_false (is_whitespace b) white) (not_from_false (b == 47) (ne 47 (λ e. omega (arith, e)))))

pub digit_good : (b : ℕ) → is_digit b ≡ true → is_good b ≡ true
digit_good b h =
    let q = and_parts (leb 48 b) (leb b 57) h in
    let lo = leb-true 48 b q.0 in
    let hi = leb-true b 57 q.1 in
    between_good b lo (omega (arith, hi))

word_low : (b : ℕ) → is_word b ≡ true → 48 ≤ b
word_low b h =
    ⊎_elim
    (λ d. leb-true 48 b (and_parts (leb 48 b) (leb b 57) d).0)
    (λ h1.
    ⊎_elim
    (λ u. let l = leb-true 65 b (and_parts (leb 65 b) (leb b 90) u).0 in omega (arith, l))
    (λ h2.
    ⊎_elim
    (λ u. let l = leb-true 97 b (and_parts (leb 97 b) (leb b 122) u).0 in omega (arith, l))
    (λ h3.
    ⊎_elim
    (λ e. let l = eqb-true b 95 e in omega (arith, l))
    (λ g. let l = leb-true 128 b g in omega (arith, l))
    (or_cases (b == 95) (leb 128 b) h3))
    (or_cases (leb 97 b && leb b 122) _ h2))
    (or_cases (leb 65 b && leb b 90) _ h1))
    (or_cases (is_digit b) _ h)

pub escape_good : (b : ℕ) → is_escape b ≡ true → is_good b ≡ true
escape_good b h =
    let q = and_parts (is_word b) (ltb b 128) h in
    between_good b (word_low b q.0) (ltb-true b 128 q.1)

-- words begin with no blank
at_point : (c n : ℕ) → c ≡ n → starts_word n ≡ false → starts_word c ≡ false
at_point c n e h = ap starts_word e ∙ h

first_blanks : (c : ℕ) → 8 < c → c < 14 → starts_word c ≡ false
unfolding unicode_ident
first_blanks c lo hi = elim (cases_eq c 9) [ inl e ↦ at_point c 9 e refl | inr n9 ↦ elim (cases_eq c 10) [ inl e ↦ at_point c 10 e refl | inr n10 ↦ elim (cases_eq c 11) [ inl e ↦ at_point c 11 e refl | inr n11 ↦ elim (cases_eq c 12) [ inl e ↦ at_point c 12 e refl | inr n12 ↦ elim (cases_eq c 13) [ inl e ↦ at_point c 13 e refl | inr n13 ↦ absurd (omega arith) ] ] ] ] ]

wide_blanks : (c : ℕ) → 8191 < c → c < 8203 → starts_word c ≡ false
unfolding unicode_ident
wide_blanks c lo hi = elim (cases_eq c 8192) [ inl e ↦ at_point c 8192 e refl | inr n8192 ↦ elim (cases_eq c 8193) [ inl e ↦ at_point c 8193 e refl | inr n8193 ↦ elim (cases_eq c 8194) [ inl e ↦ at_point c 8194 e refl | inr n8194 ↦ elim (cases_eq c 8195) [ inl e ↦ at_point c 8195 e refl | inr n8195 ↦ elim (cases_eq c 8196) [ inl e ↦ at_point c 8196 e refl | inr n8196 ↦ elim (cases_eq c 8197) [ inl e ↦ at_point c 8197 e refl | inr n8197 ↦ elim (cases_eq c 8198) [ inl e ↦ at_point c 8198 e refl | inr n8198 ↦ elim (cases_eq c 8199) [ inl e ↦ at_point c 8199 e refl | inr n8199 ↦ elim (cases_eq c 8200) [ inl e ↦ at_point c 8200 e refl | inr n8200 ↦ elim (cases_eq c 8201) [ inl e ↦ at_point c 8201 e refl | inr n8201 ↦ elim (cases_eq c 8202) [ inl e ↦ at_point c 8202 e refl | inr n8202 ↦ absurd (omega arith) ] ] ] ] ] ] ] ] ] ] ]

white_starts : (c : ℕ) → is_whitespace c ≡ true → starts_word c ≡ false
unfolding unicode_ident
white_starts c h =
    let pt = λ (n : ℕ) (k : eqb c n ≡ true) (z : starts_word n ≡ false). at_point c n (eqb-true c n k) z in
    ⊎_elim (λ h0.
    ⊎_elim (λ h1.
    ⊎_elim (λ h2.
    ⊎_elim (λ h3.
    ⊎_elim (λ h4.
    ⊎_elim (λ h5.
    ⊎_elim (λ h6.
    ⊎_elim (λ h7.
    ⊎_elim (λ h8.
    ⊎_elim (λ h9. let p = and_parts (ltb 8 c) (ltb c 14) h9 in first_blanks c (ltb-true 8 c p.0) (ltb-true c 14 p.1))
    (λ e. pt 32 e refl) (or_cases _ _ h8))
    (λ e. pt 133 e refl) (or_cases _ _ h7))
    (λ e. pt 160 e refl) (or_cases _ _ h6))
    (λ e. pt 5760 e refl) (or_cases _ _ h5))
    (λ e. let p = and_parts (ltb 8191 c) (ltb c 8203) e in wide_blanks c (ltb-true 8191 c p.0) (ltb-true c 8203 p.1)) (or_cases _ _ h4))
    (λ e. pt 8232 e refl) (or_cases _ _ h3))
    (λ e. pt 8233 e refl) (or_cases _ _ h2))
    (λ e. pt 8239 e refl) (or_cases _ _ h1))
    (λ e. pt 8287 e refl) (or_cases _ _ h0))
    (λ e. pt 12288 e refl) (or_cases _ _ h)

pub word_shown : (c : ℕ) → starts_word c ≡ true → is_whitespace c ≡ false
word_shown c h = false_from_ne_true _ (λ w. both_ways (starts_word c) (white_starts c w) h)
