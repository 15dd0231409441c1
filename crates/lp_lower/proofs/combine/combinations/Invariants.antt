use Rattle.std.proofs.Common.{◌≡◌, map, take}
use Rattle.lp_lower.specs.Choices.{choices}
use Rattle.lp_lower.specs.Pieces.{pieces_of, combination_of}
use Rattle.lp_lower.proofs.combine.combinations.Given as goal

abbrev pub invariant-loop-place : goal.invariant-loop-place
invariant-loop-place l = l.all.items ≡ take l.place (map (combination_of l.fallible) (choices (map pieces_of l.parts)))
