-- What is left from the next line that counts on is no longer than the text.
use Rattle.std.proofs.Common.{◌≡◌, ℕ, zero, suc, ◌+◌, ◌<◌, ◌≤◌, Bool, true, false, cond, inl, inr, List, [], ◌∷◌, ◌++◌, length, drop, sym, ap, arith, length-append, length-drop, subst}
use Rattle.std.specs.Char.{is_whitespace}
use Rattle.std.specs.Str.{IsUtf8, IsCharBoundary, chars, encode_utf8_all, skip_leading_whitespace, trim_start}
use Rattle.std.proofs.lemmas.Bool.{cases_lt}
use Rattle.std.proofs.lemmas.List.{drop_all}
use Rattle.std.proofs.lemmas.List.Folds.{length-prefix_len}
use Rattle.std.proofs.lemmas.Str.{encodes-append, encodes-chars, IsUtf8-drop, IsUtf8-nil, IsUtf8-take}
use Rattle.lp_spelling.specs.Counting.{is_text, is_skipped, line_len, front_line, behind_line, settled_within, settled}
use Rattle.lp_spelling.proofs.Counting.{line_boundary, line_in, next_boundary}

-- either of two texts is no longer than another
either_short : (b : Bool) (x y text : List ℕ) → length x ≤ length text → length y ≤ length text → length (cond b x y) ≤ length text
either_short true x y text h k = h
either_short false x y text h k = k

either_code : (b : Bool) (xs ys : List ℕ) (n : ℕ) → length (encode_utf8_all xs) ≤ n → length (encode_utf8_all ys) ≤ n → length (encode_utf8_all (cond b xs ys)) ≤ n
either_code true xs ys n h k = h
either_code false xs ys n h k = k

skip_short : (cs : List ℕ) → length (encode_utf8_all (skip_leading_whitespace cs)) ≤ length (encode_utf8_all cs)
skip_short [] = omega arith
skip_short (c ∷ cs) =
    let all : ℕ = length (encode_utf8_all (c ∷ cs)) in
    let more : length (encode_utf8_all cs) ≤ length (encode_utf8_all (c ∷ cs)) = omega (arith, ap length (encodes-append (c ∷ []) cs), length-append (encode_utf8_all (c ∷ [])) (encode_utf8_all cs)) in
    either_code (is_whitespace c) (skip_leading_whitespace cs) (c ∷ cs) all (omega (arith, skip_short cs, more)) (omega arith)

trim_short : (text : List ℕ) → IsUtf8 text → length (trim_start text) ≤ length text
unfolding trim_start
trim_short text u = subst (λ (y : List ℕ). length (encode_utf8_all (skip_leading_whitespace (chars text))) ≤ length y) (encodes-chars text u) (skip_short (chars text))

-- a line, and what is behind it
first_line : (text : List ℕ) → line_len text ≤ length text
first_line text = let h : 0 ≤ length text = omega arith in omega (arith, line_in text 0 h)

pub line_text : (text : List ℕ) → IsUtf8 text → IsUtf8 (front_line text)
line_text text u =
    let h : 0 ≤ length text = omega arith in
    let there : 0 + line_len text ≡ line_len text = omega arith in
    IsUtf8-take text (line_len text) u (subst (λ (i : ℕ). IsCharBoundary text i) there (line_boundary text 0 h))

behind_text : (text : List ℕ) → IsUtf8 text → IsUtf8 (behind_line text)
behind_text text u =
    elim (cases_lt (line_len text) (length text)) [
      | inl more ↦
          let h : 0 + line_len text < length text = omega arith in
          let there : 0 + line_len text + 1 ≡ line_len text + 1 = omega arith in
          IsUtf8-drop text (line_len text + 1) u (subst (λ (i : ℕ). IsCharBoundary text i) there (next_boundary text 0 u h))
      | inr all ↦ subst IsUtf8 (sym (drop_all (line_len text + 1) text (omega arith))) IsUtf8-nil
    ]

within_short : (n : ℕ) (text : List ℕ) → IsUtf8 text → length (settled_within n text) ≤ length text
unfolding settled_within
within_short zero text u = omega arith
within_short (suc n) [] u = omega arith
within_short (suc n) (b ∷ t) u =
    let text : List ℕ = b ∷ t in
    let k : ℕ = line_len (b ∷ t) in
    let behind = length-drop (k + 1) (b ∷ t) in
    let rest = length-drop k (b ∷ t) in
    let front = length-prefix_len is_text (b ∷ t) in
    let first = first_line (b ∷ t) in
    either_short (is_skipped (trim_start (front_line (b ∷ t)))) (settled_within n (behind_line (b ∷ t))) (trim_start (front_line (b ∷ t)) ++ drop k (b ∷ t)) (b ∷ t)
    (omega (arith, within_short n (behind_line (b ∷ t)) (behind_text (b ∷ t) u), behind))
    (omega (arith, length-append (trim_start (front_line (b ∷ t))) (drop k (b ∷ t)), trim_short (front_line (b ∷ t)) (line_text (b ∷ t) u), front, rest, first))

pub settled_short : (text : List ℕ) → IsUtf8 text → length (settled text) ≤ length text
unfolding settled
settled_short text u = within_short (length text) text u
