-- What the calls on user code answer.
use Rattle.std.specs.Prelude.{◌<◌, ◌≤◌}
use Rattle.lp_tok.specs.declared.rest.Rest.{Rest}
use Rattle.lp_tok.specs.declared.quoted.CodePiece.{CodePiece}
use Rattle.lp_tok.specs.declared.quoted.CodePiece.TheVariants as found
use Rattle.lp_tok.specs.declared.cut.CutEnd.{CutEnd}
use Rattle.lp_tok.specs.declared.cut.CutEnd.TheVariants.{Stops, Broken, Unclosed}
use Rattle.lp_tok.specs.Left.{left, size, Follows}
use Rattle.lp_tok.specs.CodePieces.{Piece, Whole, Fault, Nothing}
use Rattle.lp_tok.specs.Cut.{StopsAt, BreaksAt, IsUnclosed}

-- a piece as characters
abbrev pub piece_of : CodePiece → Piece
piece_of (found.Whole k after) = Whole k (left after)
piece_of (found.Fault code place) = Fault code (left place)
piece_of found.Nothing = Nothing

-- a piece that began at `start` ends at or after `inside`; an error's place is at or after the start
abbrev pub EndsAfter : Rest → Rest → CodePiece → Type 0
EndsAfter start inside (found.Whole k after) = Follows inside after × (size after ≤ size inside)
EndsAfter start inside (found.Fault code place) = Follows start place
EndsAfter start inside found.Nothing = Unit {0}

-- a piece takes at least one character
abbrev pub TakesSome : Rest → CodePiece → Type 0
TakesSome rest (found.Whole k after) = Follows rest after × (size after < size rest)
TakesSome rest (found.Fault code place) = Follows rest place
TakesSome rest found.Nothing = Unit {0}

-- the answer is that of the cut
abbrev pub IsCut : Rest → CutEnd → Type 0
IsCut from (Stops rest) = StopsAt (left from) (left rest) × Follows from rest
IsCut from (Broken code place) = BreaksAt (left from) code (left place) × Follows from place
IsCut from Unclosed = IsUnclosed (left from)
