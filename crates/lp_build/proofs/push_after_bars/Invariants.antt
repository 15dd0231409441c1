-- What was appended so far.
use Rattle.std.proofs.Common.{◌≡◌, ◌++◌, codes, string_bytes, take}
use Rattle.std.specs.List.{flat_map}
use Rattle.lp_build.proofs.push_after_bars.Given as goal

abbrev pub invariant-loop-piece : goal.invariant-loop-piece
invariant-loop-piece l =
    string_bytes l.text ≡ string_bytes l.initial.text ++ flat_map (λ piece. codes " | " ++ piece) (take l.piece-index l.pieces)
