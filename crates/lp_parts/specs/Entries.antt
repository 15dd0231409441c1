-- What the tables hold for a state and a token.
use Rattle.std.specs.Prelude.{ℕ, ℤ, pos, negsuc, ◌+◌, ◌==◌, Bool, true, false, List, [], ◌∷◌, Option, Some, None, ◌<◌, All, IfSome, map, if◌then◌else◌}
use Rattle.std.specs.List.{list_any, flat_map, range_with_len}
use Rattle.std.specs.Ordering.{nat_cmp}
use Rattle.std.specs.BTreeMap.{get}
use Rattle.lp_repr.specs.declared.lr1.Lr1State.{Lr1State}
use Rattle.lp_repr.specs.declared.lr1.Token.{Token}
use Rattle.lp_repr.specs.declared.lr1.Token.TheVariants.{Terminal, Eof}

-- a token is this terminal
abbrev pub is_terminal : ℕ → Token → Bool
is_terminal i (Terminal j) = i == j
is_terminal i Eof = false

-- a token is the end of input
abbrev pub is_eof : Token → Bool
is_eof (Terminal j) = false
is_eof Eof = true

-- the first of two that is there
abbrev pub first_of_two : Option ℕ → Option ℕ → Option ℕ
first_of_two (Some x) y = Some x
first_of_two None y = y

-- a production, where one of these tokens passes a test
abbrev pub reduced_by : (Token → Bool) → List Token → ℕ → Option ℕ
reduced_by test tokens production = if list_any test tokens then Some production else None

-- the production of the first reduction one of whose tokens passes a test
abbrev pub reduced_on : (Token → Bool) → List (List Token × ℕ) → Option ℕ
reduced_on test [] = None
reduced_on test (r ∷ rs) = first_of_two (reduced_by test r.0 r.1) (reduced_on test rs)

-- the entry of a shift to a state, else of a reduction by a production, else of an error
abbrev pub entry_of : Option ℕ → Option ℕ → ℤ
entry_of (Some target) reduced = pos (target + 1)
entry_of None (Some production) = negsuc production
entry_of None None = pos 0

-- the entry of a state for a terminal
abbrev pub action_entry : Lr1State → ℕ → ℤ
action_entry state i = entry_of (get nat_cmp state.shifts i) (reduced_on (is_terminal i) state.reductions)

-- the entry of a state at the end of input
abbrev pub end_entry : Lr1State → ℤ
end_entry state = entry_of None (reduced_on is_eof state.reductions)

-- the entries of a state for so many terminals
abbrev pub action_row : ℕ → Lr1State → List ℤ
action_row terminals state = map (action_entry state) (range_with_len 0 terminals)

-- the entries of all states, row after row
abbrev pub action_entries : ℕ → List Lr1State → List ℤ
action_entries terminals states = flat_map (action_row terminals) states

-- the entries of all states at the end of input
abbrev pub end_entries : List Lr1State → List ℤ
end_entries states = map end_entry states

-- the entries of a state fit 32 bits
pub record EntriesFit (state : Lr1State) : Type 0 where
  pub shifts : (i : ℕ) → IfSome (get nat_cmp state.shifts i) (λ target. target < 2147483647)
  pub reductions : All (λ r. r.1 < 2147483647) state.reductions
