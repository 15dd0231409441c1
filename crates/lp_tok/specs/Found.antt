-- What the calls on grammar files answer.
use Rattle.std.specs.Prelude.{◌<◌, ◌≤◌}
use Rattle.lp_tok.specs.declared.rest.Rest.{Rest}
use Rattle.lp_tok.specs.declared.piece.Piece.{Piece as FoundPiece}
use Rattle.lp_tok.specs.declared.piece.Piece.TheVariants as found
use Rattle.lp_tok.specs.Left.{left, size, Follows}
use Rattle.lp_tok.specs.Token.{Text, IsSymbol, token_of}
use Rattle.lp_tok.specs.Pieces.{Piece, Gap, Whole, Attribute, Cut, Fault, Nothing, text_between}

-- a piece as characters
abbrev pub piece_of : FoundPiece → Piece
piece_of (found.Gap after) = Gap (left after)
piece_of (found.Whole token after) = Whole (token_of token) (left after)
piece_of (found.Text kind from to after) = Whole (Text kind (text_between (left from) (left to))) (left after)
piece_of (found.Attribute end after) = Attribute (left end) (left after)
piece_of (found.Cut kind code) = Cut kind (left code)
piece_of (found.Fault code place) = Fault code (left place)
piece_of found.Nothing = Nothing

-- a piece that began at `start` ends at or after `next`; its text stands between the start and the end,
-- and an error's place is at or after the start
abbrev pub EndsAfter : Rest → Rest → FoundPiece → Type 0
EndsAfter start next (found.Gap after) = Follows next after × (size after ≤ size next)
EndsAfter start next (found.Whole token after) = Follows next after × (size after ≤ size next) × IsSymbol (token_of token)
EndsAfter start next (found.Text kind from to after) = Follows next after × (size after ≤ size next) × Follows start from × Follows from to × Follows to after
EndsAfter start next (found.Attribute end after) = Follows next after × (size after ≤ size next) × Follows start end × Follows end after
EndsAfter start next (found.Cut kind code) = Follows next code × (size code ≤ size next)
EndsAfter start next (found.Fault code place) = Follows start place
EndsAfter start next found.Nothing = Unit {0}

-- a piece takes at least one character, and an error comes only where one is left
abbrev pub TakesSome : Rest → FoundPiece → Type 0
TakesSome start (found.Gap after) = Follows start after × (size after < size start)
TakesSome start (found.Whole token after) = Follows start after × (size after < size start) × IsSymbol (token_of token)
TakesSome start (found.Text kind from to after) = Follows start after × (size after < size start) × Follows start from × Follows from to × Follows to after
TakesSome start (found.Attribute end after) = Follows start after × (size after < size start) × Follows start end × Follows end after
TakesSome start (found.Cut kind code) = Follows start code × (size code < size start)
TakesSome start (found.Fault code place) = Follows start place × (0 < size start)
TakesSome start found.Nothing = Unit {0}
