-- Those of the terminals so far.
use Rattle.std.proofs.Common.{◌≡◌, map, take}
use Rattle.lp_table.specs.KnownTerminals.{known_as}
use Rattle.lp_table.specs.TokenLines.{in_group}
use Rattle.lp_table.proofs.tokens.in_group.Given as goal

abbrev pub invariant-loop-terminal : goal.invariant-loop-terminal
invariant-loop-terminal l =
    map known_as l.members.items ≡ in_group l.group (map known_as (take l.terminal-index l.known))
