use Rattle.std.proofs.Common.{◌≡◌, ◌<◌, ℕ, None, take, vec_len, slice_index_or}
use Rattle.lp_parts.specs.Entries.{is_terminal, reduced_on}
use Rattle.lp_parts.proofs.entries.reduced_by_terminal.Given as goal

abbrev pub invariant-loop-reduction : goal.invariant-loop-reduction
invariant-loop-reduction l =
    (vec_len l.reduced ≡ l.terminals)
    × ((i : ℕ) → i < l.terminals →
    slice_index_or l.reduced.items i None ≡ reduced_on (is_terminal i) (take l.reduction-index l.reductions))
