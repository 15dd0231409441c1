use Rattle.std.proofs.Common.{◌≡◌, map, take, drop}
use Rattle.std.specs.List.{list_any}
use Rattle.std.specs.Ordering.{is_eq}
use Rattle.std.specs.BTreeSet.{contains}
use Rattle.lp_lower.specs.Places.{least, least_of}
use Rattle.lp_lower.specs.Repeats.{repeats, repeats_after}
use Rattle.lp_lower.proofs.refusals.least_repeat.Given as goal

-- the keys seen, and the least of the place found and those to come
abbrev pub invariant-loop-key : goal.invariant-loop-key
invariant-loop-key g l =
    ((q : _) → contains (λ x y. g.T.Ord.cmp x.now y.now) l.seen q ≡ list_any (λ k. is_eq (g.T.Ord.cmp k.0 q.now)) (take l.key-index l.keys))
    × (least l.found (least_of (map (λ k. k.1) (repeats_after (λ a b. is_eq (g.T.Ord.cmp a.0 b.0)) (take l.key-index l.keys) (drop l.key-index l.keys)))) ≡ least_of (map (λ k. k.1) (repeats (λ a b. is_eq (g.T.Ord.cmp a.0 b.0)) l.keys)))
