use Rattle.std.proofs.Common.{map}
use Rattle.lp_lower.specs.Pieces.{pieces_of}
use Rattle.lp_lower.proofs.Combining.{IsSoFar}
use Rattle.lp_lower.proofs.combine.combination_at.Given as goal

abbrev pub invariant-loop-part : goal.invariant-loop-part
invariant-loop-part l = IsSoFar l.fallible (map pieces_of l.parts) l.place l.part-index l.count l.left l.combination
