use Rattle.std.proofs.Common.{◌≡◌, ◌++◌, drop}
use Rattle.std.specs.Prelude.{codes}
use Rattle.std.specs.List.{flat_map}
use Rattle.lp_repr.specs.Names.{same_text}
use Rattle.lp_repr.proofs.matching.matches_after.Given as goal

-- what is left of the text, and the pieces that are left
abbrev pub invariant-loop-piece : goal.invariant-loop-piece
invariant-loop-piece l =
    same_text l.text (flat_map (λ piece. codes "_" ++ piece) (drop l.piece-index l.pieces)) ≡ same_text l.fn.text (flat_map (λ piece. codes "_" ++ piece) l.pieces)
