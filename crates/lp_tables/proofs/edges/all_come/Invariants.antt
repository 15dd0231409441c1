use Rattle.std.proofs.Common.{◌↔◌, ℕ}
use Rattle.std.specs.List.{AllByRecursion}
use Rattle.lp_tables.specs.Edges.{ComesFrom}
use Rattle.lp_tables.proofs.edges.all_come.Given as goal

abbrev pub invariant-loop-number : goal.invariant-loop-number
invariant-loop-number l =
    AllByRecursion (λ (e : ℕ × ℕ). ComesFrom l.tables.rules.all.items l.tables.states.now l.set l.kind e.0 e.1) l.number-iterator
    ↔ AllByRecursion (λ (e : ℕ × ℕ). ComesFrom l.tables.rules.all.items l.tables.states.now l.set l.kind e.0 e.1) l.edges.entries
