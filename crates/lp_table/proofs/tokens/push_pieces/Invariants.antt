-- What was appended so far, and the pieces to come.
use Rattle.std.proofs.Common.{◌≡◌, ◌++◌, drop, string_bytes}
use Rattle.lp_table.specs.TokenLines.{pieces_from}
use Rattle.lp_table.proofs.tokens.push_pieces.Given as goal

abbrev pub invariant-loop-number : goal.invariant-loop-number
invariant-loop-number l =
    string_bytes l.text ++ pieces_from l.prefix l.number (drop l.number l.pieces)
    ≡ string_bytes l.initial.text ++ pieces_from l.prefix 0 l.pieces
