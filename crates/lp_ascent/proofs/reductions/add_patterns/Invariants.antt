-- What stood there, and the patterns so far.
use Rattle.std.proofs.Common.{◌≡◌, ◌++◌, take}
use Rattle.std.specs.List.{flat_map}
use Rattle.std.specs.Option.{option_copied}
use Rattle.lp_ascent.specs.ReduceLines.{token_pattern}
use Rattle.lp_ascent.proofs.reductions.add_patterns.Given as goal

abbrev pub invariant-loop-token : goal.invariant-loop-token
invariant-loop-token l =
    l.patterns.items
    ≡ l.initial.patterns.items ++ flat_map (token_pattern l.number (option_copied l.pattern)) (take l.token-index l.tokens)
