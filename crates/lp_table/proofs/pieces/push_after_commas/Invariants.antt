-- What was appended so far.
use Rattle.std.proofs.Common.{◌≡◌, ◌++◌, codes, string_bytes, take}
use Rattle.std.specs.List.{flat_map}
use Rattle.lp_table.proofs.pieces.push_after_commas.Given as goal

abbrev pub invariant-loop-text : goal.invariant-loop-text
invariant-loop-text l =
    string_bytes l.list ≡ string_bytes l.initial.list ++ flat_map (λ text. codes ", " ++ text) (take l.text-index l.texts)
