use Rattle.std.proofs.Common.{◌↔◌, ℕ, subst, IsSome, IsTrue}
use Rattle.std.specs.BTreeMap.{get}
use Rattle.std.specs.BTreeSet.{contains}
use Rattle.std.specs.Ordering.{nat_cmp}
use Rattle.lp_tables.specs.Edges.{FollowsIn}
use Rattle.lp_tables.proofs.Following.{stand_of}
use Rattle.lp_tables.proofs.edges.edges_stand.Goals as goal

pub returns : goal.returns
returns c =
    let rules = c.args.rules.now.all.items in
    let s = c.args.state.now in
    let Member = λ (n : ℕ). IsTrue (contains nat_cmp c.in_ok-after.after n) in
    let these = subst (λ xs. (n : ℕ) → IsTrue (contains nat_cmp c.in_ok-after.after n) ↔ FollowsIn rules c.args.kind xs n) c.as_slice.ensures c.in_ok-after.ensures in
    stand_of rules c.args.kind s (λ n. IsSome (get nat_cmp c.args.edges.now n)) Member c.are_edges.result these c.are_edges.ensures
