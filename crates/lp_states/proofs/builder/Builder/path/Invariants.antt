use Rattle.std.proofs.Common.{◌≡◌, ◌++◌, ◌+◌, [], Some, None, ℕ, Option, slice_index_or}
use Rattle.lp_states.specs.Building.{paths_of, path_before}
use Rattle.lp_states.proofs.builder.Builder.path.Given as goal

-- the symbols so far, and the path to the state before them
abbrev pub invariant-loop-next : goal.invariant-loop-next
invariant-loop-next l =
    l.backwards.items ++ path_before (paths_of l.self.origins.items) l.next ≡ slice_index_or (paths_of l.self.origins.items) l.state []

abbrev left_from : Option ℕ → ℕ
left_from None = 0
left_from (Some n) = n + 1

abbrev pub decreases-loop-next : goal.decreases-loop-next
decreases-loop-next l = left_from l.next
