-- The bytes of lines: each is its text with blanks in front, up to its line feed.
use Rattle.std.proofs.Common.{◌≡◌, ℕ, ◌+◌, ◌==◌, suc, Bool, true, false, if◌then◌else◌, List, [], ◌∷◌, ◌++◌, length, replicate, All, refl, sym, ap, ◌∙◌, arith, inl, inr, append_assoc}
use Rattle.std.proofs.lemmas.Bool.{cases_Bool, cond-true, cond-false, eqb-true}
use Rattle.std.proofs.lemmas.List.{replicate-append-replicate}
use Rattle.lp_spelling.specs.Counting.{settled}
use Rattle.lp_reading_laws.specs.Printing.LineTexts.{Counts, IsSkipped, text_in}
use Rattle.lp_reading_laws.specs.Printing.WellFormed.{IsTrailing}
use Rattle.lp_write.specs.Lines.{Line, lowered, blanks, indented, indent_after, indent_after_all, line_bytes, lines_bytes}
use Rattle.lp_write.specs.Lines.Line.{line, verbatim}
use Rattle.lp_program.specs.Reads.{TakesLine}
use Rattle.lp_reading_laws.proofs.Printing.Lining.{laid, settled_over, takes_laid}

-- how many blanks stand in front of an indented text
abbrev pub blank_count : Bool → ℕ → ℕ
blank_count w n = if w then n else 0

blanks_are : (w : Bool) (n : ℕ) → blanks w n ≡ replicate (blank_count w n) 32
blanks_are true n = refl
blanks_are false n = refl

indented_laid : (w : Bool) (n : ℕ) (text rest : List ℕ) → indented w n text ++ rest ≡ laid (blank_count w n) text rest
indented_laid w n text rest =
    append_assoc (blanks w n ++ text) (10 ∷ []) rest ∙ ap (λ b. (b ++ text) ++ 10 ∷ rest) (blanks_are w n)

-- a line, with what follows it
pub record Laid (w : Bool) (i : ℕ) (l : Line) (rest : List ℕ) : Type 0 where
  pub count : ℕ
  pub is : line_bytes w i l ++ rest ≡ laid count (text_in l) rest

empty_nil : (text : List ℕ) → (length text == 0) ≡ true → text ≡ []
empty_nil [] h = refl
empty_nil (b ∷ t) h = absurd (omega (arith, eqb-true (length (b ∷ t)) 0 h))

pub any_laid : (w : Bool) (i : ℕ) (l : Line) (rest : List ℕ) → Laid w i l rest
any_laid w i (line text) rest = elim (cases_Bool (length text == 0)) [
  | inl e ↦ record {
    count = 0;
    is = ap (λ x. x ++ rest) (cond-true (length text == 0) _ _ e) ∙ ap (λ x. x ++ 10 ∷ rest) (sym (empty_nil text e));
  }
  | inr s ↦ record {
    count = blank_count w (lowered i text);
    is = ap (λ x. x ++ rest) (cond-false (length text == 0) _ _ s) ∙ indented_laid w (lowered i text) text rest;
  }
]
any_laid w i (verbatim text) rest = record { count = blank_count w i; is = indented_laid w i text rest }

-- more blanks in front
pub laid_blanks : (k b : ℕ) (x rest : List ℕ) → laid k (replicate b 32 ++ x) rest ≡ laid (k + b) x rest
laid_blanks k b x rest =
    ap (λ y. y ++ 10 ∷ rest) (sym (append_assoc (replicate k 32) (replicate b 32) x) ∙ ap (λ y. y ++ x) (replicate-append-replicate k b 32))

-- lines one after another
pub bytes-append : (w : Bool) (i : ℕ) (a b : List Line) → lines_bytes w i (a ++ b) ≡ lines_bytes w i a ++ lines_bytes w (indent_after_all i a) b
bytes-append w i [] b = refl
bytes-append w i (l ∷ a) b =
    ap (λ x. line_bytes w i l ++ x) (bytes-append w (indent_after i l) a b)
    ∙ sym (append_assoc (line_bytes w i l) (lines_bytes w (indent_after i l) a) (lines_bytes w (indent_after_all (indent_after i l) a) b))

pub bytes-split : (w : Bool) (i : ℕ) (a b : List Line) (tail : List ℕ) →
    lines_bytes w i (a ++ b) ++ tail ≡ lines_bytes w i a ++ (lines_bytes w (indent_after_all i a) b ++ tail)
bytes-split w i a b tail =
    ap (λ x. x ++ tail) (bytes-append w i a b) ∙ append_assoc (lines_bytes w i a) (lines_bytes w (indent_after_all i a) b) tail

pub bytes-first : (w : Bool) (i : ℕ) (l : Line) (ls : List Line) (tail : List ℕ) →
    lines_bytes w i (l ∷ ls) ++ tail ≡ line_bytes w i l ++ (lines_bytes w (indent_after i l) ls ++ tail)
bytes-first w i l ls tail = append_assoc (line_bytes w i l) (lines_bytes w (indent_after i l) ls) tail

-- a comment with blanks in front is one of more blanks
pub trailing_laid : (k : ℕ) (x rest : List ℕ) (t : IsTrailing x) → laid k x rest ≡ laid (k + t.blanks) t.comment rest
trailing_laid k x rest t = ap (λ y. laid k y rest) t.is ∙ laid_blanks k t.blanks t.comment rest

pub trailing_over : (k : ℕ) (x rest : List ℕ) → IsTrailing x → settled (laid k x rest) ≡ settled rest
trailing_over k x rest t = ap settled (trailing_laid k x rest t) ∙ settled_over (k + t.blanks) t.comment rest t.skipped

pub skipped_trails : (x : List ℕ) → IsSkipped x → IsTrailing x
skipped_trails x s = record { blanks = 0; comment = x; is = refl; skipped = s }

-- lines that don't count
pub skipped_lines : (w : Bool) (i : ℕ) (ls : List Line) (tail : List ℕ) → All (λ l. IsTrailing (text_in l)) ls → settled (lines_bytes w i ls ++ tail) ≡ settled tail
skipped_lines w i [] tail h = refl
skipped_lines w i (l ∷ ls) tail h =
    let rest : List ℕ = lines_bytes w (indent_after i l) ls ++ tail in
    let at = any_laid w i l rest in
    ap settled (bytes-first w i l ls tail ∙ at.is) ∙ trailing_over at.count (text_in l) rest (h 0 l (omega arith)) ∙ skipped_lines w (indent_after i l) ls tail (λ k d lt. h (suc k) d (omega arith))

-- a line that counts is taken, and one that doesn't is passed over
pub line_back : (w : Bool) (i : ℕ) (l : Line) (rest : List ℕ) → Counts (text_in l) → TakesLine (text_in l) (line_bytes w i l ++ rest) rest
line_back w i l rest c =
    let at = any_laid w i l rest in
    takes_laid (line_bytes w i l ++ rest) at.count (text_in l) rest c (ap settled at.is)

pub line_over : (w : Bool) (i : ℕ) (l : Line) (rest : List ℕ) → IsTrailing (text_in l) → settled (line_bytes w i l ++ rest) ≡ settled rest
line_over w i l rest s = let at = any_laid w i l rest in ap settled at.is ∙ trailing_over at.count (text_in l) rest s
