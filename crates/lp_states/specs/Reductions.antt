-- The reductions of a state.
use Rattle.std.specs.Prelude.{ℕ, Bool, true, false, ◌&&◌, not, List, [], ◌∷◌, is_none, if◌then◌else◌, flat_map}
use Rattle.lp_repr.specs.Closure.{next_symbol}
use Rattle.lp_repr.specs.declared.numbering.Rule.{Rule}
use Rattle.lp_repr.specs.declared.lr1.Item.{Item}
use Rattle.lp_repr.specs.declared.lr1.Token.{Token}

abbrev pub is_empty : {X : Type 0} → List X → Bool
is_empty [] = true
is_empty (x ∷ xs) = false

-- a complete item that has lookaheads is reduced on them
abbrev pub reduction_of : List Rule → Item → List (List Token × ℕ)
reduction_of rules i =
    if is_none (next_symbol rules i.production i.index) && not (is_empty i.lookahead) then (i.lookahead, i.production) ∷ [] else []

-- the reductions that items give, in their order
abbrev pub reductions_of : List Rule → List Item → List (List Token × ℕ)
reductions_of rules items = flat_map (reduction_of rules) items
