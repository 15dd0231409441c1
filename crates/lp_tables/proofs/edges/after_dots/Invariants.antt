use Rattle.std.proofs.Common.{◌↔◌, ℕ, IsTrue, take}
use Rattle.std.specs.BTreeSet.{contains}
use Rattle.std.specs.Ordering.{nat_cmp}
use Rattle.lp_tables.specs.Edges.{FollowsIn}
use Rattle.lp_tables.proofs.edges.after_dots.Given as goal

abbrev pub invariant-loop-item : goal.invariant-loop-item
invariant-loop-item l =
    (n : ℕ) → IsTrue (contains nat_cmp l.after n) ↔ FollowsIn l.rules.all.items l.kind (take l.item-index l.items) n
