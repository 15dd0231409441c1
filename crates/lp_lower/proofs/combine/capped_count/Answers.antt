use Rattle.std.proofs.Common.{◌≡◌, ◌-◌, ◌^◌, ◌<◌, [], List, length, map, drop, sym, ap, ◌∙◌, arith}
use Rattle.std.proofs.Math.ListN.{get_or, get_or-map}
use Rattle.std.proofs.lemmas.List.{length-map, drop_all}
use Rattle.lp_lower.specs.Choices.{choices}
use Rattle.lp_lower.specs.Extents.{capped}
use Rattle.lp_lower.specs.Pieces.{Piece, pieces_of}
use Rattle.lp_lower.proofs.Combining.{count_before}
use Rattle.lp_lower.proofs.combine.capped_count.Goals as goal

pub loop-place-init : goal.loop-place-init
loop-place-init c =
    let parts = c.args.parts.now in
    let none : drop (length parts) (map pieces_of parts) ≡ [] = drop_all (length parts) (map pieces_of parts) (omega (arith, length-map parts pieces_of)) in
    (omega arith, sym (ap (λ (l : List (List Piece)). capped (length (choices l))) none))

pub loop-place-preserved : goal.loop-place-preserved
loop-place-preserved c =
    let parts = c.args.parts.now in
    let i = c.loop-place.place - 1 in
    let part = c.index-parts-place.result in
    let less : i < length parts = omega arith in
    let at : get_or (map pieces_of parts) i (pieces_of part) ≡ pieces_of part = get_or-map pieces_of parts i part ∙ ap pieces_of (sym c.index-parts-place.is) in
    (omega arith, count_before (map pieces_of parts) i c.loop-place.place c.piece_count.result c.loop-place.count _ (2 ^ 64 - 1) (pieces_of part) (omega arith) (omega (arith, length-map parts pieces_of)) at c.piece_count.ensures c.loop-place.invariant.1 c.saturating_mul-count.ensures)

pub returns : goal.returns
returns c =
    let zeroth : c.loop-place.place ≡ 0 = omega arith in
    c.loop-place.invariant.1 ∙ ap (λ n. capped (length (choices (drop n (map pieces_of c.args.parts.now))))) zeroth
