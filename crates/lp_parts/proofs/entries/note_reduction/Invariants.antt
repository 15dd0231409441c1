use Rattle.std.proofs.Common.{◌≡◌, ◌<◌, ℕ, None, take, vec_len, slice_index_or}
use Rattle.lp_parts.specs.Entries.{first_of_two, is_terminal, reduced_by}
use Rattle.lp_parts.proofs.entries.note_reduction.Given as goal

abbrev pub invariant-loop-token : goal.invariant-loop-token
invariant-loop-token l =
    (vec_len l.reduced ≡ vec_len l.initial.reduced) × ((i : ℕ) → i < vec_len l.initial.reduced →
    slice_index_or l.reduced.items i None
    ≡ first_of_two (slice_index_or l.initial.reduced.items i None) (reduced_by (is_terminal i) (take l.token-index l.tokens) l.production))
