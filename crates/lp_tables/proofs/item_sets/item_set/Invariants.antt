use Rattle.std.proofs.Common.{◌≡◌, ℕ, take}
use Rattle.std.specs.BTreeSet.{contains}
use Rattle.std.specs.List.{list_any}
use Rattle.std.specs.Ordering.{is_eq}
use Rattle.lp_tables.specs.ItemSets.{item_cmp}
use Rattle.lp_tables.proofs.item_sets.item_set.Given as goal

abbrev pub invariant-loop-item : goal.invariant-loop-item
invariant-loop-item l =
    (q : ℕ × ℕ) → contains item_cmp l.set q ≡ list_any (λ i. is_eq (item_cmp (i.production, i.index) q)) (take l.item-index l.items)
