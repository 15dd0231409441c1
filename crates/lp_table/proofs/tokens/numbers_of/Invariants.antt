-- The numbers so far.
use Rattle.std.proofs.Common.{◌≡◌, map, take}
use Rattle.lp_table.specs.KnownTerminals.{known_as}
use Rattle.lp_table.specs.TokenLines.{number_of}
use Rattle.lp_table.proofs.tokens.numbers_of.Given as goal

abbrev pub invariant-loop-terminal : goal.invariant-loop-terminal
invariant-loop-terminal l = l.numbers.items ≡ map number_of (map known_as (take l.terminal-index l.known))
