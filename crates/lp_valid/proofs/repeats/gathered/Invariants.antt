use Rattle.std.proofs.Common.{◌≡◌, take}
use Rattle.std.specs.List.{list_any}
use Rattle.std.specs.Ordering.{is_eq}
use Rattle.lp_valid.specs.Members.{has_by}
use Rattle.lp_valid.proofs.repeats.gathered.Given as goal

abbrev pub invariant-loop-item : goal.invariant-loop-item
invariant-loop-item g l =
    (x : _) → has_by g.T.Ord.cmp l.set x ≡ list_any (λ y. is_eq (g.T.Ord.cmp y x)) (take l.item-index l.items)
