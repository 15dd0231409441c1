-- Lines in front of a text: with any number of blanks in front they are read as they are.
use Rattle.std.proofs.Common.{◌≡◌, ℕ, ◌+◌, ◌<◌, zero, suc, true, false, List, [], ◌∷◌, ◌++◌, length, take, drop, replicate, refl, sym, ap, ◌∙◌, arith, append_assoc, length-append}
use Rattle.std.specs.Char.{is_whitespace}
use Rattle.std.specs.Str.{chars, trim_start, skip_leading_whitespace, encode_utf8_all}
use Rattle.std.proofs.lemmas.Bool.{and_parts, and_from, cond-true, cond-false}
use Rattle.std.proofs.lemmas.List.{take_at, drop_at}
use Rattle.std.proofs.lemmas.Str.{encodes-chars}
use Rattle.lp_texts.specs.OneLine.{begins}
use Rattle.lp_spelling.specs.Counting.{is_text, line_len, front_line, behind_line, is_skipped, settled}
use Rattle.lp_spelling.proofs.Counting.{settled_skips, settled_counts}
use Rattle.lp_reading_laws.specs.Printing.LineTexts.{is_on_line, IsLineText, Counts, IsSkipped}
use Rattle.lp_program.specs.Reads.{TakesLine}

-- a text with so many blanks in front, up to its line feed
abbrev pub laid : ℕ → List ℕ → List ℕ → List ℕ
laid k text rest = (replicate k 32 ++ text) ++ 10 ∷ rest

pub on_line-append : (a b : List ℕ) → is_on_line a ≡ true → is_on_line b ≡ true → is_on_line (a ++ b) ≡ true
on_line-append [] b h k = k
on_line-append (x ∷ a) b h k =
    let p = and_parts (is_text x) (is_on_line a) h in
    and_from (is_text x) (is_on_line (a ++ b)) p.0 (on_line-append a b p.1 k)

pub on_line-blanks : (k : ℕ) → is_on_line (replicate k 32) ≡ true
on_line-blanks zero = refl
on_line-blanks (suc k) = on_line-blanks k

-- the line ends at its line feed
pub line_ends : (a rest : List ℕ) → is_on_line a ≡ true → line_len (a ++ 10 ∷ rest) ≡ length a
line_ends [] rest h = refl
line_ends (x ∷ a) rest h =
    let p = and_parts (is_text x) (is_on_line a) h in
    let e = line_ends a rest p.1 in
    cond-true (is_text x) (1 + line_len (a ++ 10 ∷ rest)) 0 p.0 ∙ omega (arith, e)

pub line_front : (a rest : List ℕ) → is_on_line a ≡ true → front_line (a ++ 10 ∷ rest) ≡ a
line_front a rest h = ap (λ n. take n (a ++ 10 ∷ rest)) (line_ends a rest h) ∙ take_at a (10 ∷ rest) (length a) refl

pub line_left : (a rest : List ℕ) → is_on_line a ≡ true → drop (line_len (a ++ 10 ∷ rest)) (a ++ 10 ∷ rest) ≡ 10 ∷ rest
line_left a rest h = ap (λ n. drop n (a ++ 10 ∷ rest)) (line_ends a rest h) ∙ drop_at a (10 ∷ rest) (length a) refl

pub line_behind : (a rest : List ℕ) → is_on_line a ≡ true → behind_line (a ++ 10 ∷ rest) ≡ rest
line_behind a rest h =
    let whole : a ++ 10 ∷ rest ≡ (a ++ 10 ∷ []) ++ rest = sym (append_assoc a (10 ∷ []) rest) in
    let size = length-append a (10 ∷ []) in
    ap (λ n. drop (n + 1) (a ++ 10 ∷ rest)) (line_ends a rest h) ∙ ap (λ x. drop (length a + 1) x) whole
    ∙ drop_at (a ++ 10 ∷ []) rest (length a + 1) (omega (arith, size))

-- blanks in front are trimmed
pub chars_blank : (x : List ℕ) → chars (32 ∷ x) ≡ 32 ∷ chars x
unfolding chars
chars_blank [] = refl
chars_blank (b ∷ x) = refl

trim_blank : (x : List ℕ) → trim_start (32 ∷ x) ≡ trim_start x
unfolding trim_start
trim_blank x = ap (λ cs. encode_utf8_all (skip_leading_whitespace cs)) (chars_blank x)

skip_none : (cs : List ℕ) → begins is_whitespace cs ≡ false → skip_leading_whitespace cs ≡ cs
skip_none [] h = refl
skip_none (c ∷ cs) h = cond-false (is_whitespace c) _ _ h

trim_none : (x : List ℕ) → IsLineText x → trim_start x ≡ x
unfolding trim_start
trim_none x l = ap encode_utf8_all (skip_none (chars x) l.shown) ∙ encodes-chars x l.utf8

pub trim_blanks : (k : ℕ) (x : List ℕ) → trim_start (replicate k 32 ++ x) ≡ trim_start x
trim_blanks zero x = refl
trim_blanks (suc k) x = trim_blank (replicate k 32 ++ x) ∙ trim_blanks k x

-- the line in front, without its blanks
shown_line : (k : ℕ) (x rest : List ℕ) → IsLineText x → trim_start (front_line (laid k x rest)) ≡ x
shown_line k x rest l =
    ap trim_start (line_front (replicate k 32 ++ x) rest (on_line-append (replicate k 32) x (on_line-blanks k) l.on_line))
    ∙ trim_blanks k x ∙ trim_none x l

laid_some : (k : ℕ) (x rest : List ℕ) → 0 < length (laid k x rest)
laid_some k x rest = let e = length-append (replicate k 32 ++ x) (10 ∷ rest) in omega (arith, e)

-- a line that counts
pub settled_line : (k : ℕ) (x rest : List ℕ) → Counts x → settled (laid k x rest) ≡ x ++ 10 ∷ rest
settled_line k x rest c =
    let on = on_line-append (replicate k 32) x (on_line-blanks k) c.0.on_line in
    let shown = shown_line k x rest c.0 in
    let counts : is_skipped (trim_start (front_line (laid k x rest))) ≡ false = ap is_skipped shown ∙ c.1 in
    settled_counts (laid k x rest) (laid_some k x rest) counts
    ∙ ap (λ t. t ++ drop (line_len (laid k x rest)) (laid k x rest)) shown
    ∙ ap (λ t. x ++ t) (line_left (replicate k 32 ++ x) rest on)

-- a line that doesn't
pub settled_over : (k : ℕ) (x rest : List ℕ) → IsSkipped x → settled (laid k x rest) ≡ settled rest
settled_over k x rest c =
    let on = on_line-append (replicate k 32) x (on_line-blanks k) c.0.on_line in
    let shown = shown_line k x rest c.0 in
    let skips : is_skipped (trim_start (front_line (laid k x rest))) ≡ true = ap is_skipped shown ∙ c.1 in
    settled_skips (laid k x rest) (laid_some k x rest) skips ∙ ap settled (line_behind (replicate k 32 ++ x) rest on)

-- the next line that counts is taken
pub takes_line : (text x rest : List ℕ) → is_on_line x ≡ true → settled text ≡ x ++ 10 ∷ rest → TakesLine x text rest
takes_line text x rest h e =
    let size : length (settled text) ≡ length x + suc (length rest) = ap length e ∙ length-append x (10 ∷ rest) in
    record {
      some = omega (arith, size);
      line_is = ap front_line e ∙ line_front x rest h;
      rest_is = sym (ap behind_line e ∙ line_behind x rest h);
    }

-- a line is taken off any text that goes on alike
pub takes_laid : (text : List ℕ) (k : ℕ) (x rest : List ℕ) → Counts x → settled text ≡ settled (laid k x rest) → TakesLine x text rest
takes_laid text k x rest c e = takes_line text x rest c.0.on_line (e ∙ settled_line k x rest c)
