use Rattle.std.proofs.Common.{◌≡◌, ◌≤◌, length, map, drop}
use Rattle.lp_lower.specs.Choices.{choices}
use Rattle.lp_lower.specs.Extents.{capped}
use Rattle.lp_lower.specs.Pieces.{pieces_of}
use Rattle.lp_lower.proofs.combine.capped_count.Given as goal

-- the parts from this place on
abbrev pub invariant-loop-place : goal.invariant-loop-place
invariant-loop-place l =
    (l.place ≤ length l.parts) × (l.count ≡ capped (length (choices (drop l.place (map pieces_of l.parts)))))

abbrev pub decreases-loop-place : goal.decreases-loop-place
decreases-loop-place l = l.place
