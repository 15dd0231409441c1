use Rattle.std.proofs.Common.{◌≡◌, ◌++◌, drop}
use Rattle.lp_state_parts.specs.Gotos.{column_from}
use Rattle.lp_state_parts.proofs.gotos.goto_column.Given as goal

abbrev pub invariant-loop-number : goal.invariant-loop-number
invariant-loop-number l =
    l.column.items ++ column_from l.nonterminal l.number (drop l.number l.states)
    ≡ column_from l.nonterminal 0 l.states
