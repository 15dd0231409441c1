-- The productions of a nonterminal stand together.
use Rattle.std.specs.Prelude.{◌≡◌, ◌↔◌, ℕ, ◌+◌, ◌<◌, ◌≤◌, List, Option, Some, slice_get, slice_index}
use Rattle.std.specs.Option.{option_map}
use Rattle.lp_repr.specs.declared.numbering.Rule.{Rule}

-- the nonterminal of a production
abbrev pub left_of : List Rule → ℕ → Option ℕ
left_of rules p = option_map (λ (r : Rule). r.left) (slice_get rules p)

-- those of each nonterminal are the ones from its first up to that of the next
abbrev pub AreRanges : List Rule → List ℕ → Type 0
AreRanges rules firsts = (n p : ℕ) → ((slice_index firsts n ≤ p) × (p < slice_index firsts (n + 1))) ↔ (left_of rules p ≡ Some n)
