use Rattle.std.proofs.Common.{◌≡◌, ℕ, ◌+◌, suc, List, ◌∷◌, ◌++◌, drop, sym, ap, ◌∙◌, arith}
use Rattle.std.specs.Prelude.{codes}
use Rattle.std.proofs.Math.Seq.{drop-cons}
use Rattle.std.specs.List.{flat_map}
use Rattle.lp_repr.specs.Names.{same_text}
use Rattle.lp_repr.proofs.TextParts.{piece_missing, piece_taken}
use Rattle.lp_repr.proofs.matching.matches_after.Goals as goal

abbrev holed : List (List ℕ) → List ℕ
holed pieces = flat_map (λ (piece : List ℕ). codes "_" ++ piece) pieces

pub returns-in_default-strip_prefix : goal.returns-in_default-strip_prefix
returns-in_default-strip_prefix c =
    let pieces = c.args.pieces.now in
    let i = c.loop-piece.piece-index in
    let bytes = c.as_bytes.result.now in
    let item = sym c.piece-item.is ∙ sym c.as_str.ensures ∙ sym c.as_bytes.ensures.value in
    let next : suc i ≡ i + 1 = omega arith in
    let e : drop i pieces ≡ bytes ∷ drop (i + 1) pieces = drop-cons pieces i c.piece-item.result (omega arith) ∙ ap (λ (y : List ℕ). y ∷ drop (suc i) pieces) item ∙ ap (λ (n : ℕ). bytes ∷ drop n pieces) next in
    let none = piece_missing c.loop-piece.text.now c.in-Some.after_hole.now bytes (holed (drop (i + 1) pieces)) c.in-Some.ensures.cases.0 c.in-Some.ensures.cases.1 c.in_default-strip_prefix.ensures.cases in
    sym none ∙ sym (ap (λ (l : List (List ℕ)). same_text c.loop-piece.text.now (holed l)) e) ∙ c.loop-piece.invariant

pub loop-piece-preserved : goal.loop-piece-preserved
loop-piece-preserved c =
    let pieces = c.args.pieces.now in
    let i = c.loop-piece.piece-index in
    let bytes = c.as_bytes.result.now in
    let item = sym c.piece-item.is ∙ sym c.as_str.ensures ∙ sym c.as_bytes.ensures.value in
    let next : suc i ≡ i + 1 = omega arith in
    let e : drop i pieces ≡ bytes ∷ drop (i + 1) pieces = drop-cons pieces i c.piece-item.result (omega arith) ∙ ap (λ (y : List ℕ). y ∷ drop (suc i) pieces) item ∙ ap (λ (n : ℕ). bytes ∷ drop n pieces) next in
    let rest = piece_taken c.loop-piece.text.now c.in-Some.after_hole.now c.in-Some-strip_prefix.after_piece.now bytes (holed (drop (i + 1) pieces)) c.in-Some.ensures.cases.0 c.in-Some.ensures.cases.1 c.in-Some-strip_prefix.ensures.cases.0 c.in-Some-strip_prefix.ensures.cases.1 in
    sym rest ∙ sym (ap (λ (l : List (List ℕ)). same_text c.loop-piece.text.now (holed l)) e) ∙ c.loop-piece.invariant
