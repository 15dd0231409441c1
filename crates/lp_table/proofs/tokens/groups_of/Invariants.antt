-- The groups of the terminals so far.
use Rattle.std.proofs.Common.{◌≡◌, map, take}
use Rattle.lp_table.specs.KnownTerminals.{known_as}
use Rattle.lp_table.specs.TokenLines.{groups_of}
use Rattle.lp_table.proofs.tokens.groups_of.Given as goal

abbrev pub invariant-loop-terminal : goal.invariant-loop-terminal
invariant-loop-terminal l = l.groups.items ≡ groups_of (map known_as (take l.terminal-index l.known))
