-- Comments behind blanks.
use Rattle.std.proofs.Common.{◌≡◌, ◌↔◌, ℕ, zero, suc, Bool, List, [], ◌∷◌, ◌++◌, drop, replicate, Some, None, IsTrue, refl, sym, ap, ◌∙◌, subst, arith}
use Rattle.std.specs.Char.{is_whitespace}
use Rattle.std.specs.Str.{chars}
use Rattle.std.specs.Str.Pattern.{CutsPrefixes, FindsCharPrefix, IsFullyTrimmed, IsTrimStartMatches}
use Rattle.std.proofs.lemmas.Bool.{false≢true}
use Rattle.std.proofs.lemmas.Str.{encode_ascii}
use Rattle.std.proofs.lemmas.Str.Pattern.{drop_at_char}
use Rattle.lp_texts.specs.OneLine.{begins}
use Rattle.lp_reading_laws.specs.Printing.LineTexts.{IsSkipped}
use Rattle.lp_reading_laws.specs.Printing.WellFormed.{IsTrailing}
use Rattle.lp_reading_laws.proofs.Printing.Lining.{chars_blank}

-- one blank more
blanks_more : (n : ℕ) (rest : List ℕ) → replicate n 32 ++ 32 ∷ rest ≡ replicate (suc n) 32 ++ rest
blanks_more zero rest = refl
blanks_more (suc n) rest = ap (λ x. 32 ∷ x) (blanks_more n rest)

-- cutting off blanks
blanks_cut : (ns text rest : List ℕ) → CutsPrefixes (FindsCharPrefix 32) text ns rest → (n : ℕ) × (text ≡ replicate n 32 ++ rest)
blanks_cut [] text rest e = (0, sym e)
blanks_cut (k ∷ ns) text rest (between, cuts, at, e) =
    let before = blanks_cut ns text between cuts in
    let here : between ≡ 32 ∷ rest = drop_at_char 32 between 0 k at (omega arith) ∙ ap (λ x. 32 ∷ x) (sym e) in
    (suc before.0, before.1 ∙ ap (λ x. replicate before.0 32 ++ x) here ∙ blanks_more before.0 rest)

-- a text with no blank at its front
abbrev IsCut : List ℕ → Type 0
IsCut text = (rest : List ℕ) → text ≡ 32 ∷ rest → ⊥

trimmed_is_cut : (text : List ℕ) → IsFullyTrimmed (FindsCharPrefix 32) text → IsCut text
trimmed_is_cut text (None, none, z) rest e = none rest (e ∙ ap (λ x. x ++ rest) (sym (encode_ascii 32 (omega arith))))
trimmed_is_cut text (Some n, at, z) rest e = omega (arith, at.ends, z)

skipped_is_cut : (text : List ℕ) → IsSkipped text → IsCut text
skipped_is_cut text skipped rest e =
    false≢true (sym skipped.0.shown ∙ ap (λ t. begins is_whitespace (chars t)) e ∙ ap (begins is_whitespace) (chars_blank rest))

-- blanks end in one place
one_end : (n m : ℕ) (a b : List ℕ) → IsCut a → IsCut b → replicate n 32 ++ a ≡ replicate m 32 ++ b → a ≡ b
one_end zero zero a b cut_a cut_b e = e
one_end zero (suc m) a b cut_a cut_b e = absurd (cut_a (replicate m 32 ++ b) e)
one_end (suc n) zero a b cut_a cut_b e = absurd (cut_b (replicate n 32 ++ a) (sym e))
one_end (suc n) (suc m) a b cut_a cut_b e = one_end n m a b cut_a cut_b (ap (drop 1) e)

-- what is left of a text without its blanks tells whether they and a comment are all of it
pub trailing : (text rest : List ℕ) (r : Bool) → IsTrimStartMatches (FindsCharPrefix 32) text rest → (IsTrue r ↔ IsSkipped rest) → IsTrue r ↔ IsTrailing text
trailing text rest r (cuts, all) told =
    let cut = blanks_cut cuts.0 text rest cuts.1 in (
      λ t. record { blanks = cut.0; comment = rest; is = cut.1; skipped = told.0 t },
      λ w. told.1 (subst IsSkipped (sym (one_end cut.0 w.blanks rest w.comment (trimmed_is_cut rest all) (skipped_is_cut w.comment w.skipped) (sym cut.1 ∙ w.is))) w.skipped),
    )
