use Rattle.std.proofs.Common.{◌∷◌, [], ◌++◌, map, sym, ap, ◌∙◌, arith}
use Rattle.std.proofs.lemmas.List.{length-map, take_all}
use Rattle.lp_lower.specs.Choices.{choices}
use Rattle.lp_lower.specs.Pieces.{pieces_of, combination_of}
use Rattle.lp_lower.proofs.Combining.{take_at}
use Rattle.lp_lower.proofs.combine.combinations.Goals as goal

pub loop-place-preserved : goal.loop-place-preserved
loop-place-preserved c =
    let x = c.in_ok-combination_at.field-0 in
    c.in_ok-push.ensures.items ∙ (ap (λ l. l ++ x ∷ []) c.loop-place.invariant ∙ sym (take_at (map (combination_of c.args.fallible) (choices (map pieces_of c.args.parts.now))) c.loop-place.place x c.in_ok-combination_at.ensures))

pub returns : goal.returns
returns c =
    let all = choices (map pieces_of c.args.parts.now) in
    c.loop-place.invariant ∙ take_all c.loop-place.place (map (combination_of c.args.fallible) all) (omega (arith, length-map all (combination_of c.args.fallible), c.in_ok-total.ensures))
