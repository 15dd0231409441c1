use Rattle.std.proofs.Common.{◌↔◌, IsTrue}
use Rattle.std.specs.BTreeMap.{keys}
use Rattle.std.specs.BTreeSet.{contains}
use Rattle.std.specs.List.{AllByRecursion}
use Rattle.std.specs.Ordering.{nat_cmp}
use Rattle.lp_tables.proofs.edges.all_follow.Given as goal

abbrev pub invariant-loop-number : goal.invariant-loop-number
invariant-loop-number l =
    AllByRecursion (λ n. IsTrue (contains nat_cmp l.numbers n)) l.number-iterator
    ↔ AllByRecursion (λ n. IsTrue (contains nat_cmp l.numbers n)) (keys l.edges)
