-- The terminals so far, and those to come.
use Rattle.std.proofs.Common.{◌≡◌, ◌++◌, drop, map}
use Rattle.lp_table.specs.KnownTerminals.{known_as}
use Rattle.lp_table.specs.TokenLines.{known_from}
use Rattle.lp_table.proofs.tokens.known_terminals.Given as goal

abbrev pub invariant-loop-number : goal.invariant-loop-number
invariant-loop-number l =
    map known_as l.known.items ++ known_from l.shared.grammar.now l.number (drop l.number l.terminals)
    ≡ known_from l.shared.grammar.now 0 l.terminals
