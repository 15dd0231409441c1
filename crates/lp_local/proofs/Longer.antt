-- Where something is put behind a text, its next line that counts, and what is behind it, go on with that.
use Rattle.std.proofs.Common.{◌≡◌, ℕ, zero, suc, ◌<◌, ◌≤◌, ◌==◌, false, eqb, ⊎_elim, inl, inr, List, [], ◌∷◌, ◌++◌, length, codes, refl, sym, ap, ◌∙◌, arith, subst, append_assoc, length-append}
use Rattle.std.specs.Char.{is_whitespace}
use Rattle.std.specs.List.{starts_with}
use Rattle.std.specs.Str.{IsUtf8, chars, encode_utf8_all, skip_leading_whitespace, trim_start}
use Rattle.std.proofs.lemmas.Bool.{cases_Bool, cases_lt, cond-true, cond-false, eqb-true, false_from_ne_true, false≢true, or_cases}
use Rattle.std.proofs.lemmas.List.{nil_from_length}
use Rattle.std.proofs.lemmas.Str.{chars-append, chars-nil, encodes-append, encodes-chars}
use Rattle.lp_spelling.specs.Counting.{feeds, is_skipped, settled}
use Rattle.lp_spelling.proofs.Counting.{settled_none}
use Rattle.lp_local.proofs.Agreeing.{feeds-append, split_first}
use Rattle.lp_local.proofs.Settling.{behind_byte, before_byte, skips_first, counts_first, skips_last, counts_last}

-- what is left of a text in front of a shorter one, told by its characters
pub chars_longer : (rest y r : List ℕ) (c : ℕ) → IsUtf8 rest → IsUtf8 y → chars rest ≡ (c ∷ r) ++ chars y → (b : List ℕ) × (rest ≡ b ++ y) × (0 < length b)
chars_longer rest y r c u v e =
    let b : List ℕ = encode_utf8_all (c ∷ r) in
    let whole : rest ≡ b ++ y
    = sym (encodes-chars rest u) ∙ ap encode_utf8_all e ∙ encodes-append (c ∷ r) (chars y) ∙ ap (λ (x : List ℕ). b ++ x) (encodes-chars y v) in
    elim (cases_lt 0 (length b)) [
      | inl some ↦ (b, whole, some)
      | inr none ↦
          let same : rest ≡ y = whole ∙ ap (λ (x : List ℕ). x ++ y) (nil_from_length b (omega (arith, none))) in
          let size = ap (λ (x : List ℕ). length (chars x)) (sym same) ∙ ap length e ∙ length-append (c ∷ r) (chars y) in
          absurd (omega (arith, size))
    ]

-- blanks in front of something
skip_longer : (cs ds : List ℕ) → (skip_leading_whitespace cs ≡ [] → ⊥) → skip_leading_whitespace (cs ++ ds) ≡ skip_leading_whitespace cs ++ ds
skip_longer [] ds some = absurd (some refl)
skip_longer (c ∷ cs) ds some = elim (cases_Bool (is_whitespace c)) [
  | inl w ↦
      let step : skip_leading_whitespace (c ∷ cs) ≡ skip_leading_whitespace cs = cond-true (is_whitespace c) _ _ w in
      cond-true (is_whitespace c) _ _ w ∙ skip_longer cs ds (λ e. some (step ∙ e)) ∙ ap (λ (x : List ℕ). x ++ ds) (sym step)
  | inr n ↦
      let step : skip_leading_whitespace (c ∷ cs) ≡ c ∷ cs = cond-false (is_whitespace c) _ _ n in
      cond-false (is_whitespace c) _ _ n ∙ ap (λ (x : List ℕ). x ++ ds) (sym step)
]

trim_longer : (a b : List ℕ) → IsUtf8 a → IsUtf8 b → 0 < length (trim_start a) → trim_start (a ++ b) ≡ trim_start a ++ b
unfolding trim_start
trim_longer a b u v some =
    let none : skip_leading_whitespace (chars a) ≡ [] → ⊥ = λ e. (let size = ap (λ (x : List ℕ). length (encode_utf8_all x)) e in omega (arith, size, some)) in
    ap (λ (x : List ℕ). encode_utf8_all (skip_leading_whitespace x)) (chars-append a b u) ∙ ap encode_utf8_all (skip_longer (chars a) (chars b) none)
    ∙ encodes-append (skip_leading_whitespace (chars a)) (chars b) ∙ ap (λ (x : List ℕ). encode_utf8_all (skip_leading_whitespace (chars a)) ++ x) (encodes-chars b v)

-- a line that is no comment however it goes on
abbrev IsNoComment : List ℕ → Type 0
IsNoComment line = (z : List ℕ) → starts_with eqb (line ++ z) (codes "//") ≡ false

counts_longer : (line z : List ℕ) → 0 < length line → IsNoComment line → is_skipped (line ++ z) ≡ false
counts_longer line z some none =
    let size = length-append line z in
    false_from_ne_true (is_skipped (line ++ z))
    (λ h. ⊎_elim (λ e. absurd (omega (arith, eqb-true (length (line ++ z)) 0 e, size, some))) (λ s. false≢true (sym (none z) ∙ s)) (or_cases (length (line ++ z) == 0) (starts_with eqb (line ++ z) (codes "//")) h))

text_some : (t : List ℕ) → 0 < length (trim_start t) → 0 < length t
unfolding trim_start
text_some [] some = (let none = ap (λ (x : List ℕ). length (encode_utf8_all (skip_leading_whitespace x))) chars-nil in absurd (omega (arith, none, some)))
text_some (b ∷ t) some = omega arith

-- a text of one line
last_longer : (t e : List ℕ) → IsUtf8 t → IsUtf8 e → feeds t ≡ 0 → 0 < length (trim_start t) → IsNoComment (trim_start t) → settled (t ++ e) ≡ trim_start t ++ e
last_longer t e u v none some counts = elim (split_first e) [
  | inl one ↦
      let more : trim_start (t ++ e) ≡ trim_start t ++ e = trim_longer t e u v some in
      let feed : feeds (t ++ e) ≡ 0 = feeds-append t e ∙ omega (arith, none, one) in
      let size : 0 < length (t ++ e) = (let a = length-append t e in let b = text_some t some in omega (arith, a, b)) in
      counts_last (t ++ e) size feed (ap is_skipped more ∙ counts_longer (trim_start t) e some counts) ∙ more
  | inr f ↦
      let w : IsUtf8 f.line = before_byte f.line 10 f.rest (omega arith) (subst (λ (x : List ℕ). IsUtf8 x) f.whole v) in
      let more : trim_start (t ++ f.line) ≡ trim_start t ++ f.line = trim_longer t f.line u w some in
      let feed : feeds (t ++ f.line) ≡ 0 = feeds-append t f.line ∙ (let a = f.within in omega (arith, none, a)) in
      ap (λ (x : List ℕ). settled (t ++ x)) f.whole ∙ ap settled (sym (append_assoc t f.line (10 ∷ f.rest)))
      ∙ counts_first (t ++ f.line) f.rest feed (ap is_skipped more ∙ counts_longer (trim_start t) f.line some counts)
      ∙ ap (λ (x : List ℕ). x ++ 10 ∷ f.rest) more ∙ append_assoc (trim_start t) f.line (10 ∷ f.rest) ∙ ap (λ (x : List ℕ). trim_start t ++ x) (sym f.whole)
]

longer_within : (m : ℕ) (t e : List ℕ) → length t ≤ m → IsUtf8 t → IsUtf8 e → 0 < length (settled t) → IsNoComment (settled t) → settled (t ++ e) ≡ settled t ++ e
longer_within zero [] e le u v some counts = (let none = ap length settled_none in absurd (omega (arith, none, some)))
longer_within zero (b ∷ t) e le u v some counts = absurd (omega (arith, le))
longer_within (suc m) t e le u v some counts = elim (split_first t) [
  | inl none ↦ one_line t none u some counts
  | inr f ↦
      let all : t ++ e ≡ f.line ++ 10 ∷ (f.rest ++ e) = ap (λ (x : List ℕ). x ++ e) f.whole ∙ append_assoc f.line (10 ∷ f.rest) e in
      elim (cases_Bool (is_skipped (trim_start f.line))) [
        | inl skips ↦
            let here : settled t ≡ settled f.rest = ap settled f.whole ∙ skips_first f.line f.rest f.within skips in
            let size = ap length f.whole ∙ length-append f.line (10 ∷ f.rest) in
            let w : IsUtf8 f.rest = behind_byte f.line 10 f.rest (omega arith) (subst (λ (x : List ℕ). IsUtf8 x) f.whole u) in
            let next : settled (f.rest ++ e) ≡ settled f.rest ++ e
            = longer_within m f.rest e (omega (arith, le, size)) w v (subst (λ (x : List ℕ). 0 < length x) here some) (subst IsNoComment here counts) in
            ap settled all ∙ skips_first f.line (f.rest ++ e) f.within skips ∙ next ∙ ap (λ (x : List ℕ). x ++ e) (sym here)
        | inr stays ↦
            let here : settled t ≡ trim_start f.line ++ 10 ∷ f.rest = ap settled f.whole ∙ counts_first f.line f.rest f.within stays in
            ap settled all ∙ counts_first f.line (f.rest ++ e) f.within stays ∙ sym (append_assoc (trim_start f.line) (10 ∷ f.rest) e) ∙ ap (λ (x : List ℕ). x ++ e) (sym here)
      ]
]
  where
    one_line : (t : List ℕ) → feeds t ≡ 0 → IsUtf8 t → 0 < length (settled t) → IsNoComment (settled t) → settled (t ++ e) ≡ settled t ++ e
    one_line [] none u some counts = (let empty = ap length settled_none in absurd (omega (arith, empty, some)))
    one_line (b ∷ r) none u some counts = elim (cases_Bool (is_skipped (trim_start (b ∷ r)))) [
      | inl skips ↦ (let empty = ap length (skips_last (b ∷ r) (omega arith) none skips) in absurd (omega (arith, empty, some)))
      | inr stays ↦
          let here : settled (b ∷ r) ≡ trim_start (b ∷ r) = counts_last (b ∷ r) (omega arith) none stays in
          last_longer (b ∷ r) e u v none (subst (λ (x : List ℕ). 0 < length x) here some) (subst IsNoComment here counts) ∙ ap (λ (x : List ℕ). x ++ e) (sym here)
    ]

-- the next line that counts is no comment however it goes on
pub settled_longer : (t e : List ℕ) → IsUtf8 t → IsUtf8 e → 0 < length (settled t) → ((z : List ℕ) → starts_with eqb (settled t ++ z) (codes "//") ≡ false) → settled (t ++ e) ≡ settled t ++ e
settled_longer t e u v some counts = longer_within (length t) t e (omega arith) u v some counts
