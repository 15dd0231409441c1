-- What the definitions say of short texts.
use Rattle.std.proofs.Common.{◌≡◌, ℕ, ◌==◌, ◌||◌, false, List, [], ◌∷◌, ◌++◌, length, get_or, codes, refl, ap, arith}
use Rattle.std.proofs.lemmas.Bool.{cond-false}
use Rattle.unicode_ident.proofs.IdentLemmas.{is_xid_start-ascii}
use Rattle.lp_tok.specs.declared.tok.ErrorCode.TheVariants.{ExpectedStringLiteral}
use Rattle.lp_tok.specs.Scans.{starts_word}
use Rattle.lp_tok.specs.CodePieces.{Whole, Fault, kind_of, code_piece}
use Rattle.lp_tok.specs.Cut.{StopsAt, BreaksAt, splits_none}
use Rattle.lp_tok.proofs.CutSteps.{stops_breaks}
use Rattle.lp_local.specs.Agreeing.{first_lines, Agree, lines_before}
use Rattle.lp_local.proofs.Cutting.{breaks_told}

-- a line has the line feed that ends it, and the last line may have none
one_line : first_lines 1 (codes "ab\nc\n") ≡ codes "ab\n"
unfolding first_lines
one_line = refl

all_lines : first_lines 2 (codes "ab\nc") ≡ codes "ab\nc"
unfolding first_lines
all_lines = refl

no_lines : first_lines 0 (codes "ab\nc\n") ≡ []
unfolding first_lines
no_lines = refl

-- texts that differ on the second line
one_same : Agree 1 (codes "ab\nc\n") (codes "ab\nd\n")
unfolding first_lines
one_same = refl

two_differ : Agree 2 (codes "ab\nc\n") (codes "ab\nd\n") → ⊥
unfolding first_lines
two_differ h = let third : 99 ≡ 100 = ap (λ (t : List ℕ). get_or t 3 0) h in omega (arith, third)

-- a text that ends with its last line agrees with what goes on behind that line, and no further
goes_on : Agree 1 (codes "ab\n") (codes "ab\nc\n")
unfolding first_lines
goes_on = refl

ends_there : Agree 2 (codes "ab\n") (codes "ab\nc\n") → ⊥
unfolding first_lines
ends_there h = let size : 3 ≡ 5 = ap (λ (t : List ℕ). length t) h in omega (arith, size)

-- and one whose last line has no line feed doesn't
no_feed : Agree 1 (codes "ab") (codes "ab\nc\n") → ⊥
unfolding first_lines
no_feed h = let size : 2 ≡ 3 = ap (λ (t : List ℕ). length t) h in omega (arith, size)

one_before : lines_before (codes "ab\nc\nd") (codes "\nd") ≡ 1
one_before = refl

-- user code that begins with `r#+` breaks at the `+`, whatever follows
hash_sign : code_piece (codes "r#+") ≡ Fault ExpectedStringLiteral (codes "+")
hash_sign =
    let no : starts_word 43 ≡ false = ap (λ x. x || (43 == 95)) (is_xid_start-ascii 43 (omega arith)) in
    cond-false (starts_word 43) (Whole (kind_of 97) []) (Fault ExpectedStringLiteral (codes "+")) no

none_before : (A : Type 0) (before after : List A) (k : A) → [] ≡ before ++ k ∷ after → ⊥
none_before A [] after k e = cc
none_before A (j ∷ before) after k e = cc

hash_breaks : BreaksAt (codes "r#+") ExpectedStringLiteral (codes "+")
hash_breaks = ([], codes "r#+", record { splits = splits_none (codes "r#+"); goes_on = λ before after k e ends. absurd (none_before _ before after k e) }, hash_sign)

hash_stops : (more rest : List ℕ) → StopsAt (codes "r#+" ++ more) rest → ⊥
hash_stops more rest s = stops_breaks (codes "r#+" ++ more) rest (codes "+" ++ more) ExpectedStringLiteral s (breaks_told (codes "r#") (codes "+") (codes "+" ++ more) refl hash_breaks)
