-- How many right sides there are, and how many symbols they have.
use Rattle.std.specs.Prelude.{ℕ, ◌-◌, ◌^◌, ◌++◌, min, List, map, length, sum_by}
use Rattle.std.specs.List.{flat_map}
use Rattle.lp_repr.specs.declared.repr.Symbol.{Symbol}
use Rattle.lp_lower.specs.declared.extents.Extent.{Extent}

-- a number, or the greatest one where it is greater
abbrev pub capped : ℕ → ℕ
capped n = min n (2 ^ 64 - 1)

-- the extent of these right sides
unfoldable pub extent_of : List (List Symbol) → Extent
extent_of sides = record { alternatives = capped (length sides); symbols = capped (sum_by length sides) }

-- each of these followed by each of those
abbrev pub joined : List (List Symbol) → List (List Symbol) → List (List Symbol)
joined first second = flat_map (λ a. map (λ b. a ++ b) second) first
