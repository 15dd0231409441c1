-- Each text has its lines.
use Rattle.std.proofs.Common.{◌≡◌, ℕ, List, [], ◌∷◌, length, refl, ap, subst, arith}
use Rattle.lp_spelling.specs.Counting.{front_line, behind_line, settled}
use Rattle.lp_program.specs.Begins.{Lines}
use Rattle.lp_program.specs.Looking.{AreCounted}
use Rattle.lp_program.proofs.Existing as counted
use Rattle.lp_reading_laws.specs.Texts.TextLines.{HasLines}
use Rattle.lp_reading_laws.specs.Texts.TextLines.HasLines.{no_line, one_line}
use Rattle.lp_reading_laws.specs.Texts.Laws.{LinesExist, LinesAreThese}

has_lines : (text : List ℕ) (lines : Lines) → AreCounted text lines → HasLines text lines
has_lines text [] c = no_line text c
has_lines text (l ∷ lines) c =
    let others : HasLines (behind_line (settled text)) lines = has_lines (behind_line (settled text)) lines (subst (λ (x : List ℕ). AreCounted x lines) c.1.rest_is c.2) in
    subst (λ (x : List ℕ). HasLines text (x ∷ lines)) c.1.line_is (one_line text lines c.1.some others)

pub lines_exist : LinesExist
lines_exist text u = let c = counted.lines_exist text u in (c.0, has_lines text c.0 c.1)

pub lines_are_these : LinesAreThese
lines_are_these text _ _ (no_line _ e) (no_line _ k) = refl
lines_are_these text _ _ (no_line _ e) (one_line _ others some k) = absurd (omega (arith, some, ap length e))
lines_are_these text _ _ (one_line _ lines some h) (no_line _ k) = absurd (omega (arith, some, ap length k))
lines_are_these text _ _ (one_line _ lines some h) (one_line _ others more k) =
    ap (λ (x : Lines). front_line (settled text) ∷ x) (lines_are_these (behind_line (settled text)) lines others h k)
