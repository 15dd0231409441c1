use Rattle.std.proofs.Common.{◌≡◌, ◌++◌, drop}
use Rattle.lp_machine.specs.GrammarTables.{known_among}
use Rattle.lp_machine.proofs.grammar.terminals_of.Given as goal

-- the terminals so far, and those to come
abbrev pub invariant-loop-terminal : goal.invariant-loop-terminal
invariant-loop-terminal l =
    l.terminals.items ++ known_among l.grammar (drop l.terminal-index l.grammar.terminals.all) ≡ known_among l.grammar l.grammar.terminals.all
