-- Each text has its lines.
use Rattle.std.proofs.Common.{◌≡◌, ℕ, ◌+◌, ◌≤◌, zero, suc, true, List, [], ◌∷◌, ◌++◌, length, drop, inl, inr, refl, sym, ◌∙◌, ap, subst, arith, length-append, length-drop, length-take}
use Rattle.std.specs.Str.{IsUtf8, IsCharBoundary, chars, trim_start, skip_leading_whitespace, encode_utf8_all}
use Rattle.std.specs.Char.{is_whitespace}
use Rattle.std.proofs.lemmas.Bool.{and_parts, cases_Bool, cases_lt, cond-true, cond-false}
use Rattle.std.proofs.lemmas.List.{drop_all, nil_from_length}
use Rattle.std.proofs.lemmas.Str.{encodes-chars, scalars-chars, IsUtf8-append, IsUtf8-take, IsUtf8-drop}
use lib.Utf8.{encode, scalar, scalars}
use Rattle.lp_spelling.specs.Counting.{line_len, front_line, behind_line, is_skipped, settled_within, settled}
use Rattle.lp_spelling.proofs.Counting.{line_boundary, next_boundary, settled_none}
use Rattle.lp_program.specs.Begins.{Lines}
use Rattle.lp_program.specs.Looking.{AreCounted}

-- blanks in front
skip_scalars : (cs : List ℕ) → scalars cs ≡ true → scalars (skip_leading_whitespace cs) ≡ true
skip_scalars [] h = h
skip_scalars (c ∷ cs) h = elim (cases_Bool (is_whitespace c)) [
  | inl y ↦ ap scalars (cond-true (is_whitespace c) (skip_leading_whitespace cs) (c ∷ cs) y) ∙ skip_scalars cs (and_parts (scalar c) (scalars cs) h).1
  | inr n ↦ ap scalars (cond-false (is_whitespace c) (skip_leading_whitespace cs) (c ∷ cs) n) ∙ h
]

skip_short : (cs : List ℕ) → length (encode_utf8_all (skip_leading_whitespace cs)) ≤ length (encode_utf8_all cs)
skip_short [] = omega arith
skip_short (c ∷ cs) = elim (cases_Bool (is_whitespace c)) [
  | inl y ↦
      let e : length (encode_utf8_all (skip_leading_whitespace (c ∷ cs))) ≡ length (encode_utf8_all (skip_leading_whitespace cs))
      = ap (λ x. length (encode_utf8_all x)) (cond-true (is_whitespace c) (skip_leading_whitespace cs) (c ∷ cs) y) in
      let size : length (encode_utf8_all (c ∷ cs)) ≡ length (encode c) + length (encode_utf8_all cs) = length-append (encode c) (encode_utf8_all cs) in
      let r = skip_short cs in
      omega (arith, e, size, r)
  | inr n ↦
      let e : length (encode_utf8_all (skip_leading_whitespace (c ∷ cs))) ≡ length (encode_utf8_all (c ∷ cs))
      = ap (λ x. length (encode_utf8_all x)) (cond-false (is_whitespace c) (skip_leading_whitespace cs) (c ∷ cs) n) in
      omega (arith, e)
]

trim_short : (x : List ℕ) → IsUtf8 x → length (trim_start x) ≤ length x
unfolding trim_start
trim_short x u =
    let r = skip_short (chars x) in
    let e : length (encode_utf8_all (chars x)) ≡ length x = ap length (encodes-chars x u) in
    omega (arith, r, e)

trim_utf8 : (x : List ℕ) → IsUtf8 x → IsUtf8 (trim_start x)
unfolding trim_start
trim_utf8 x u = (skip_leading_whitespace (chars x), (skip_scalars (chars x) (scalars-chars x u), refl))

none_utf8 : IsUtf8 []
none_utf8 = ([], (refl, refl))

-- the line in front, and what stands from its end on, and behind it
end_boundary : (t : List ℕ) → IsCharBoundary t (line_len t)
end_boundary t = let e : 0 + line_len t ≡ line_len t = omega arith in subst (λ i. IsCharBoundary t i) e (line_boundary t 0 (omega arith))

pub behind_utf8 : (t : List ℕ) → IsUtf8 t → IsUtf8 (behind_line t)
behind_utf8 t u = elim (cases_lt (line_len t) (length t)) [
  | inl lt ↦
      let e : 0 + line_len t + 1 ≡ line_len t + 1 = omega arith in
      IsUtf8-drop t (line_len t + 1) u (subst (λ i. IsCharBoundary t i) e (next_boundary t 0 u (omega (arith, lt))))
  | inr le ↦ subst (λ (x : List ℕ). IsUtf8 x) (sym (drop_all (line_len t + 1) t (omega (arith, le)))) none_utf8
]

abbrev IsFine : List ℕ → List ℕ → Type 0
IsFine t x = IsUtf8 x × (length x ≤ length t)

shown_fine : (t : List ℕ) → IsUtf8 t → IsFine t (trim_start (front_line t) ++ drop (line_len t) t)
shown_fine t u =
    let front : IsUtf8 (front_line t) = IsUtf8-take t (line_len t) u (end_boundary t) in
    let rest : IsUtf8 (drop (line_len t) t) = IsUtf8-drop t (line_len t) u (end_boundary t) in
    let a = trim_short (front_line t) front in
    let b = length-take (line_len t) t in
    let d = length-drop (line_len t) t in
    let s = length-append (trim_start (front_line t)) (drop (line_len t) t) in
    (IsUtf8-append (trim_start (front_line t)) (drop (line_len t) t) (trim_utf8 (front_line t) front) rest, omega (arith, a, b, d, s))

within_fine : (n : ℕ) (t : List ℕ) → IsUtf8 t → IsFine t (settled_within n t)
unfolding settled_within
within_fine zero t u = (none_utf8, omega arith)
within_fine (suc n) [] u = (none_utf8, omega arith)
within_fine (suc n) (b ∷ t) u =
    let line : List ℕ = b ∷ t in
    elim (cases_Bool (is_skipped (trim_start (front_line line)))) [
      | inl y ↦
          let r = within_fine n (behind_line line) (behind_utf8 line u) in
          let d = length-drop (line_len line + 1) line in
          let short = r.1 in
          subst (λ (x : List ℕ). IsFine line x) (sym (cond-true (is_skipped (trim_start (front_line line))) _ _ y)) (r.0, omega (arith, short, d))
      | inr z ↦ subst (λ (x : List ℕ). IsFine line x) (sym (cond-false (is_skipped (trim_start (front_line line))) _ _ z)) (shown_fine line u)
    ]

pub settled_fine : (t : List ℕ) → IsUtf8 t → IsFine t (settled t)
unfolding settled
settled_fine t u = within_fine (length t) t u

lines_within : (n : ℕ) (t : List ℕ) → IsUtf8 t → length t ≤ n → (lines : Lines) × AreCounted t lines
lines_within zero [] u le = ([], settled_none)
lines_within zero (b ∷ t) u le = absurd (omega arith)
lines_within (suc n) t u le =
    let f = settled_fine t u in
    elim (cases_lt 0 (length (settled t))) [
      | inl some ↦
          let d = length-drop (line_len (settled t) + 1) (settled t) in
          let short = f.1 in
          let r = lines_within n (behind_line (settled t)) (behind_utf8 (settled t) f.0) (omega (arith, some, d, short, le)) in
          (front_line (settled t) ∷ r.0, (behind_line (settled t), record { some = some; line_is = refl; rest_is = refl }, r.1))
      | inr none ↦ ([], nil_from_length (settled t) (omega (arith, none)))
    ]

pub lines_exist : (text : List ℕ) → IsUtf8 text → (lines : Lines) × AreCounted text lines
lines_exist text u = lines_within (length text) text u (omega arith)
