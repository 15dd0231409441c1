use Rattle.std.proofs.Common.{◌≡◌, map, fold}
use Rattle.lp_assembly.specs.Visibilities.{visibility_at, visibility_of, wider, widest}
use Rattle.lp_assembly.proofs.visibility.widest_visibility.Given as goal

-- what serves those so far and those to come
abbrev pub invariant-loop-start : goal.invariant-loop-start
invariant-loop-start l = fold wider (visibility_of l.served) (map (visibility_at l.grammar) l.start-iterator) ≡ widest l.grammar
