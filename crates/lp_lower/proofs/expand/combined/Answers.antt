use Rattle.std.proofs.Common.{map, ap, ◌∙◌}
use Rattle.lp_lower.specs.Choices.{choices}
use Rattle.lp_lower.specs.Expansion.{combined}
use Rattle.lp_lower.specs.Pieces.{pieces_of, combination_of}
use Rattle.lp_lower.proofs.expand.combined.Goals as goal

pub returns : goal.returns
unfolding combined
returns c =
    let fallible = c.args.alternative.now.fallible in
    c.in_ok-combinations.ensures
    ∙ (ap (λ l. map (combination_of fallible) (choices (map pieces_of l))) c.as_slice.ensures.value
    ∙ ap (λ l. map (combination_of fallible) (choices l)) c.in_ok-parts.ensures)
