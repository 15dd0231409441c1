-- The patterns so far.
use Rattle.std.proofs.Common.{◌≡◌, map, take}
use Rattle.lp_table.specs.KnownTerminals.{known_as}
use Rattle.lp_table.specs.TokenLines.{pattern_of}
use Rattle.lp_table.proofs.tokens.patterns_of.Given as goal

abbrev pub invariant-loop-terminal : goal.invariant-loop-terminal
invariant-loop-terminal l =
    l.patterns.items ≡ map (pattern_of l.prefix) (map known_as (take l.terminal-index l.known))
