use Rattle.std.proofs.Common.{◌≡◌, ◌++◌, drop}
use Rattle.std.specs.Prelude.{map}
use Rattle.lp_machine.specs.declared.lookup.KnownTerminal.{KnownTerminal}
use Rattle.lp_machine.specs.TablesView.{tables_of}
use Rattle.lp_machine.specs.ExpectedList.{names_with_action}
use Rattle.lp_machine.proofs.verdict.names_with_action.Given as goal

-- the names so far, and those to come
abbrev pub invariant-loop-i : goal.invariant-loop-i
invariant-loop-i l =
    l.names ++ names_with_action (tables_of l.tables) l.state l.i (map (λ (n : KnownTerminal). n.name) (drop l.i l.tables.terminals.items))
    ≡ names_with_action (tables_of l.tables) l.state 0 (map (λ (n : KnownTerminal). n.name) l.tables.terminals.items)
