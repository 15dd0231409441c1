use Rattle.std.proofs.Common.{◌≡◌, ◌++◌, drop}
use Rattle.std.specs.Prelude.{map}
use Rattle.lp_machine.specs.declared.lookup.KnownTerminal.{KnownTerminal}
use Rattle.lp_machine.specs.TablesView.{tables_of}
use Rattle.lp_machine.specs.ExpectedLaw.{names_tried}
use Rattle.lp_machine.proofs.Trials.{after}
use Rattle.lp_machine.proofs.by_tables.names_tried.Given as goal

-- the names so far, and those to come
abbrev pub invariant-loop-i : goal.invariant-loop-i
invariant-loop-i l =
    after l.names (names_tried (tables_of l.tables) l.n l.stack l.i (map (λ (n : KnownTerminal). n.name) (drop l.i l.tables.terminals.items)))
    ≡ names_tried (tables_of l.tables) l.n l.stack 0 (map (λ (n : KnownTerminal). n.name) l.tables.terminals.items)
