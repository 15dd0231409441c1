use Rattle.std.proofs.Common.{◌≡◌, ◌≤◌, map, drop, length}
use Rattle.std.specs.Map.Iter.{deref}
use Rattle.std.specs.List.{position_from}
use Rattle.std.specs.Ordering.{eq_by_cmp}
use Rattle.std.specs.BTreeMap.{get}
use Rattle.lp_repr.proofs.numbering.by_name.Given as goal

-- the names from this number on
abbrev pub invariant-loop-number : goal.invariant-loop-number
invariant-loop-number g l =
    (l.number ≤ length l.names) × ((q : _) → get g.T.Ord.cmp l.numbers q ≡ position_from (eq_by_cmp g.T.Ord.cmp q) l.number (drop l.number (map deref l.names)))

abbrev pub decreases-loop-number : goal.decreases-loop-number
decreases-loop-number g l = l.number
