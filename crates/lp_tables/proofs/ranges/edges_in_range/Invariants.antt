use Rattle.std.proofs.Common.{◌↔◌, ℕ, ◌<◌}
use Rattle.std.specs.List.{AllByRecursion}
use Rattle.lp_tables.proofs.ranges.edges_in_range.Given as goal

abbrev pub invariant-loop-number : goal.invariant-loop-number
invariant-loop-number l =
    AllByRecursion (λ (e : ℕ × ℕ). (e.0 < l.symbols) × (e.1 < l.states)) l.number-iterator
    ↔ AllByRecursion (λ (e : ℕ × ℕ). (e.0 < l.symbols) × (e.1 < l.states)) l.edges.entries
