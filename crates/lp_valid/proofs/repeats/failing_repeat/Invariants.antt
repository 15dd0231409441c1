use Rattle.std.proofs.Common.{◌≡◌, ℕ, ◌<◌, take}
use Rattle.std.specs.List.{list_any}
use Rattle.std.specs.Ordering.{is_eq}
use Rattle.std.specs.BTreeSet.{contains}
use Rattle.lp_valid.specs.Places.{IsNew}
use Rattle.lp_valid.proofs.repeats.failing_repeat.Given as goal

abbrev pub invariant-loop-place : goal.invariant-loop-place
invariant-loop-place g l =
    ((q : _) → contains (λ x y. g.T.Ord.cmp x.now y.now) l.seen q ≡ list_any (λ y. is_eq (g.T.Ord.cmp y q.now)) (take l.place l.items))
    × ((k : ℕ) → k < l.place → IsNew g.T.Ord.cmp l.items k)
