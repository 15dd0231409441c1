-- The slots of the top state of a path.
use Rattle.std.proofs.Common.{◌≡◌, ◌⊎◌, ◌↔◌, ◌<◌, ◌+◌, ◌-◌, ℕ, zero, suc, ◌≤◌, List, [], ◌∷◌, ◌++◌, length, map, Some, slice_get, refl, sym, ◌∙◌, inl, inr, subst, arith}
use Rattle.std.proofs.lemmas.Option.{same_Some}
use Rattle.lp_driver.specs.DriverState.{last_of}
use Rattle.lp_repr.specs.Closure.{HasItem}
use Rattle.lp_repr.specs.StateParts.{max_prefix_of, will_pop_of}
use Rattle.lp_repr.specs.ValidTables.{IsValidTables}
use Rattle.lp_repr.specs.declared.repr.Grammar.{Grammar}
use Rattle.lp_repr.specs.declared.repr.Symbol.{Symbol}
use Rattle.lp_repr.specs.declared.numbering.SymbolNumber.{SymbolNumber}
use Rattle.lp_repr.specs.declared.lr1.Lr1State.{Lr1State}
use Rattle.lp_valid.specs.ValidGrammar.{IsValidGrammar}
use Rattle.lp_turn_laws.specs.Paths.Ends.{symbol_named, IsEnd}
use Rattle.lp_turn_laws.specs.Paths.Walks.{edge_at, end_of, IsPath}
use Rattle.lp_turn_laws.proofs.Paths.Slots.{prefix_ends, greatest_dot, least_dot}
use Rattle.lp_turn_laws.proofs.Paths.SlotEdges.{target_slots, fixed_ends, optional_where}
use Rattle.lp_turn_laws.proofs.Paths.Stacks.{path_top}

module _ (g : Grammar) (grammar : IsValidGrammar g) (start : ℕ) (states : List Lr1State) (valid : IsValidTables g start states) where
  module _ (stack : List ℕ) (xs : List SymbolNumber) (path : IsPath states stack xs) (q : ℕ) (top : last_of stack ≡ Some q) (s : Lr1State) (at : slice_get states q ≡ Some s) where
    -- the state at the end of the walk
    at_end : slice_get states (end_of 0 path.rest) ≡ Some s
    at_end = subst (λ (i : ℕ). slice_get states i ≡ Some s) (same_Some q (end_of 0 path.rest) (sym top ∙ path_top states stack xs path)) at

    -- its slots are the last symbols of the path
    pub path_slots : IsEnd (max_prefix_of g s.items) (map (symbol_named g) xs)
    path_slots = prefix_ends g grammar start states valid path.rest xs path.walks s at_end

    -- its fixed slots are the last of those
    pub path_fixed : IsEnd (will_pop_of g s.items) (max_prefix_of g s.items)
    path_fixed = fixed_ends g grammar start states valid path.rest xs path.walks s at_end

    -- a state that it leads to has the last of its slots and the new symbol
    pub path_target : (x : SymbolNumber) (p : ℕ) (t : Lr1State) → edge_at states q x ≡ Some p → slice_get states p ≡ Some t → (us : List Symbol) × (max_prefix_of g t.items ≡ us ++ symbol_named g x ∷ []) × IsEnd us (max_prefix_of g s.items)
    path_target x p t edge to =
        target_slots g grammar start states valid path.rest xs path.walks s at_end x p t (subst (λ (i : ℕ). edge_at states i x ≡ Some p) (same_Some q (end_of 0 path.rest) (sym top ∙ path_top states stack xs path)) edge) to

  -- a complete item takes off no symbol, or all fixed slots and no more than there are slots
  pub pops_fixed : (q : ℕ) (s : Lr1State) → slice_get states q ≡ Some s → (y d : ℕ) → HasItem s.items y d → (d ≡ 0) ⊎ ((length (will_pop_of g s.items) ≤ d) × (d ≤ length (max_prefix_of g s.items)))
  pops_fixed q s at y zero h = inl refl
  pops_fixed q s at y (suc d) h =
      inr (((least_dot g grammar start states valid q s at).bound y (suc d) h (omega arith)).1, (greatest_dot g grammar start states valid q s at).bound y (suc d) h)

  -- slot i, the deepest first, is optional exactly where some item's dot is above 0 and doesn't reach it
  pub optional_slot : (q : ℕ) (s : Lr1State) → slice_get states q ≡ Some s → (i : ℕ) → (i < length (max_prefix_of g s.items) - length (will_pop_of g s.items)) ↔ ((y d : ℕ) × HasItem s.items y d × (0 < d) × (d + i < length (max_prefix_of g s.items)))
  optional_slot q s at i =
      optional_where s.items (length (max_prefix_of g s.items)) (length (will_pop_of g s.items)) i (greatest_dot g grammar start states valid q s at) (least_dot g grammar start states valid q s at)
