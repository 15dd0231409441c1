use Rattle.std.proofs.Common.{◌≡◌, ℕ, ◌+◌, ◌<◌, ◌/◌, ◌%◌, length, map, drop, refl, sym, ap, ◌∙◌, subst, arith}
use Rattle.std.proofs.Math.ListN.{get_or, get_or-map}
use Rattle.std.proofs.lemmas.List.{length-map}
use Rattle.lp_lower.specs.Choices.{choices}
use Rattle.lp_lower.specs.Pieces.{pieces_of}
use Rattle.lp_lower.proofs.Combining.{so_far_none, so_far_digits, so_far_more, so_far_all, none_of}
use Rattle.lp_lower.proofs.combine.combination_at.Goals as goal

pub loop-part-init : goal.loop-part-init
loop-part-init c = so_far_none c.args.fallible (map pieces_of c.args.parts.now) c.args.place c.args.total _ (none_of c.args.fallible _ _ c.empty-inlined.ensures c.empty-symbols.ensures) c.requires.whole c.requires.within

pub nonzero_div-count : goal.nonzero_div-count
nonzero_div-count c =
    let xss = map pieces_of c.args.parts.now in
    let i = c.loop-part.part-index in
    let part = c.part-item.result in
    let less : i < length xss = omega (arith, length-map c.args.parts.now pieces_of) in
    let at : get_or xss i (pieces_of part) ≡ pieces_of part = get_or-map pieces_of c.args.parts.now i part ∙ ap pieces_of (sym c.part-item.is) in
    let two = so_far_digits c.args.fallible xss c.args.place i c.loop-part.count c.loop-part.left c.loop-part.combination (pieces_of part) less at c.loop-part.invariant in
    omega (arith, two.some, c.piece_count-count.ensures)

pub nonzero_div-number : goal.nonzero_div-number
nonzero_div-number c =
    let xss = map pieces_of c.args.parts.now in
    let i = c.loop-part.part-index in
    let part = c.part-item.result in
    let less : i < length xss = omega (arith, length-map c.args.parts.now pieces_of) in
    let at : get_or xss i (pieces_of part) ≡ pieces_of part = get_or-map pieces_of c.args.parts.now i part ∙ ap pieces_of (sym c.part-item.is) in
    let two = so_far_digits c.args.fallible xss c.args.place i c.loop-part.count c.loop-part.left c.loop-part.combination (pieces_of part) less at c.loop-part.invariant in
    let rest : c.loop-part.count / c.piece_count-count.result ≡ length (choices (drop (i + 1) xss)) = ap (λ k. c.loop-part.count / k) c.piece_count-count.ensures ∙ two.rest in
    omega (arith, two.others, rest)

pub add_piece-requires : goal.add_piece-requires
add_piece-requires c =
    let xss = map pieces_of c.args.parts.now in
    let i = c.loop-part.part-index in
    let part = c.part-item.result in
    let less : i < length xss = omega (arith, length-map c.args.parts.now pieces_of) in
    let at : get_or xss i (pieces_of part) ≡ pieces_of part = get_or-map pieces_of c.args.parts.now i part ∙ ap pieces_of (sym c.part-item.is) in
    let two = so_far_digits c.args.fallible xss c.args.place i c.loop-part.count c.loop-part.left c.loop-part.combination (pieces_of part) less at c.loop-part.invariant in
    let rest : c.loop-part.count / c.piece_count-count.result ≡ length (choices (drop (i + 1) xss)) = ap (λ k. c.loop-part.count / k) c.piece_count-count.ensures ∙ two.rest in
    let P : ℕ → Type 0 = λ n. c.loop-part.left / n < length (pieces_of part) in
    subst P (sym rest) two.digit

pub nonzero_rem-left : goal.nonzero_rem-left
nonzero_rem-left c =
    let xss = map pieces_of c.args.parts.now in
    let i = c.loop-part.part-index in
    let part = c.part-item.result in
    let less : i < length xss = omega (arith, length-map c.args.parts.now pieces_of) in
    let at : get_or xss i (pieces_of part) ≡ pieces_of part = get_or-map pieces_of c.args.parts.now i part ∙ ap pieces_of (sym c.part-item.is) in
    let two = so_far_digits c.args.fallible xss c.args.place i c.loop-part.count c.loop-part.left c.loop-part.combination (pieces_of part) less at c.loop-part.invariant in
    let rest : c.loop-part.count / c.piece_count-count.result ≡ length (choices (drop (i + 1) xss)) = ap (λ k. c.loop-part.count / k) c.piece_count-count.ensures ∙ two.rest in
    omega (arith, two.others, rest)

pub loop-part-preserved : goal.loop-part-preserved
loop-part-preserved c =
    let xss = map pieces_of c.args.parts.now in
    let i = c.loop-part.part-index in
    let part = c.part-item.result in
    let less : i < length xss = omega (arith, length-map c.args.parts.now pieces_of) in
    let at : get_or xss i (pieces_of part) ≡ pieces_of part = get_or-map pieces_of c.args.parts.now i part ∙ ap pieces_of (sym c.part-item.is) in
    let next = c.loop-part.count / c.piece_count-count.result in
    so_far_more c.args.fallible xss c.args.place i c.loop-part.count c.loop-part.left c.loop-part.combination (pieces_of part) less at c.loop-part.invariant c.piece_count-count.result next (c.loop-part.left / next) (c.loop-part.left % next) c.add_piece.new.self c.piece_count-count.ensures refl refl refl (λ x at_x. c.in_ok-add_piece.ensures x at_x)

pub returns : goal.returns
returns c = so_far_all c.args.fallible (map pieces_of c.args.parts.now) c.args.place c.loop-part.part-index c.loop-part.count c.loop-part.left c.loop-part.combination (omega (arith, length-map c.args.parts.now pieces_of)) c.loop-part.invariant
