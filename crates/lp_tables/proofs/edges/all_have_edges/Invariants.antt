use Rattle.std.proofs.Common.{◌↔◌, IsSome}
use Rattle.std.specs.BTreeMap.{get}
use Rattle.std.specs.List.{AllByRecursion}
use Rattle.std.specs.Ordering.{nat_cmp}
use Rattle.lp_tables.proofs.edges.all_have_edges.Given as goal

abbrev pub invariant-loop-number : goal.invariant-loop-number
invariant-loop-number l =
    AllByRecursion (λ n. IsSome (get nat_cmp l.edges n)) l.number-iterator
    ↔ AllByRecursion (λ n. IsSome (get nat_cmp l.edges n)) l.numbers.keys
