-- The parts before the dots of a state: all are ends of the symbols of any path to it.
use Rattle.std.proofs.Common.{◌≡◌, ◌⊎◌, ℕ, suc, ◌≤◌, List, [], ◌∷◌, length, map, take, Option, Some, slice_get, refl, sym, ap, ◌∙◌, ⊎_elim, inl, inr, subst, arith}
use Rattle.std.specs.Option.{option_map, unwrap_or}
use Rattle.std.proofs.lemmas.List.{length-map, length-take-le, take-map, drop-map}
use Rattle.std.proofs.lemmas.Option.{slice_get_within}
use Rattle.lp_repr.specs.Closure.{HasItem}
use Rattle.lp_repr.specs.Numbering.{rules_of, productions_of, number_or_count}
use Rattle.lp_repr.specs.StateParts.{before_dot, IsInRange, AreInRange, max_prefix_of, will_pop_of}
use Rattle.lp_repr.specs.ValidTables.{IsItemInRange, IsValidTables}
use Rattle.lp_repr.specs.declared.repr.Grammar.{Grammar}
use Rattle.lp_repr.specs.declared.repr.Production.{Production}
use Rattle.lp_repr.specs.declared.repr.Symbol.{Symbol}
use Rattle.lp_repr.specs.declared.numbering.Rule.{Rule}
use Rattle.lp_repr.specs.declared.numbering.SymbolNumber.{SymbolNumber}
use Rattle.lp_repr.specs.declared.lr1.Item.{Item}
use Rattle.lp_repr.specs.declared.lr1.Lr1State.{Lr1State}
use Rattle.lp_valid.specs.ValidGrammar.{IsValidGrammar}
use Rattle.lp_turn_laws.specs.Paths.Dots.{IsGreatestDot, IsLeastDot}
use Rattle.lp_turn_laws.specs.Paths.Ends.{symbol_named, IsEnd}
use Rattle.lp_turn_laws.specs.Paths.Walks.{IsWalk, end_of}
use Rattle.lp_turn_laws.proofs.Paths.EndsOf.{nil_ends, ends_nested}
use Rattle.lp_turn_laws.proofs.Paths.Names.{produces}
use Rattle.lp_turn_laws.proofs.Paths.Numbered.{at_mapped, mapped_at}
use Rattle.lp_turn_laws.proofs.Paths.Parts.{longest_bound, longest_is, shortest_bound, shortest_is}
use Rattle.lp_turn_laws.proofs.Paths.Reductions.{all_at}
use Rattle.lp_turn_laws.proofs.Paths.Walks.{reach_back}

module _ (g : Grammar) (grammar : IsValidGrammar g) (start : ℕ) (states : List Lr1State) (valid : IsValidTables g start states) where
  -- ---- the part before an item's dot
  -- an item of a state is in range
  item_rule : (q : ℕ) (s : Lr1State) (i : ℕ) (item : Item) → slice_get states q ≡ Some s → slice_get s.items i ≡ Some item → IsItemInRange (rules_of g) item
  item_rule q s i item at e = all_at (IsItemInRange (rules_of g)) s.items i item (valid.each q s at).items_in_range e

  -- the part, by the symbols of the rule
  part_by_rule : (item : Item) (r : Rule) → slice_get (rules_of g) item.production ≡ Some r → before_dot g item ≡ map (symbol_named g) (take item.index r.right)
  part_by_rule item r at =
      let p = produces g grammar item.production r at in
      ap (λ (o : Option Production). take item.index (unwrap_or (option_map (λ (q : Production). q.symbols) o) [])) p.at
      ∙ ap (take item.index) (sym p.named)
      ∙ take-map (symbol_named g) item.index r.right

  -- it has as many symbols as the dot says
  pub length_part : (q : ℕ) (s : Lr1State) (i : ℕ) (item : Item) → slice_get states q ≡ Some s → slice_get s.items i ≡ Some item → length (before_dot g item) ≡ item.index
  length_part q s i item at e =
      let r = item_rule q s i item at e in
      ap length (part_by_rule item r.0 r.1) ∙ length-map (take item.index r.0.right) (symbol_named g) ∙ length-take-le item.index r.0.right r.2

  -- its production, with as many symbols as its dot needs
  pub item_within : (q : ℕ) (s : Lr1State) (i : ℕ) (item : Item) → slice_get states q ≡ Some s → slice_get s.items i ≡ Some item → (p : Production) × (slice_get (productions_of g) item.production ≡ Some p) × (item.index ≤ length p.symbols)
  item_within q s i item at e =
      let r = item_rule q s i item at e in
      let p = produces g grammar item.production r.0 r.1 in
      let l = ap length p.right ∙ length-map p.production.symbols (number_or_count g) in
      (p.production, p.at, omega (arith, l, r.2))

  -- its items are in range
  pub items_in_range : (q : ℕ) (s : Lr1State) → slice_get states q ≡ Some s → AreInRange g s.items
  items_in_range q s at = each_in_range s.items (λ i item e.
      let w = item_within q s i item at e in
      (slice_get_within (productions_of g) item.production w.0 w.1, subst (λ (o : Option Production). item.index ≤ length (unwrap_or (option_map (λ (p : Production). p.symbols) o) [])) (sym w.1) w.2))
    where
      each_in_range : (items : List Item) → ((i : ℕ) (item : Item) → slice_get items i ≡ Some item → IsInRange g item) → AreInRange g items
      each_in_range [] h = tt
      each_in_range (x ∷ items) h = (h 0 x refl, each_in_range items (λ i item e. h (suc i) item e))

  -- ---- the counts of slots
  -- a part that is chosen has an item
  part_item : (q : ℕ) (s : Lr1State) (us : List Symbol) → slice_get states q ≡ Some s → (us ≡ []) ⊎ ((i : ℕ) × (slice_get (map (before_dot g) s.items) i ≡ Some us)) → (length us ≡ 0) ⊎ ((p : ℕ) × HasItem s.items p (length us))
  part_item q s us at o =
      ⊎_elim
      (λ (e : us ≡ []). inl (ap length e))
      (λ (w : (i : ℕ) × (slice_get (map (before_dot g) s.items) i ≡ Some us)).
      let x = at_mapped (before_dot g) s.items w.0 us w.1 in
      inr (x.0.production, (w.0, x.0, x.1, refl, sym (length_part q s w.0 x.0 at x.1) ∙ ap length (sym x.2))))
      o

  -- the longest part is as long as the greatest dot
  pub greatest_dot : (q : ℕ) (s : Lr1State) → slice_get states q ≡ Some s → IsGreatestDot s.items (length (max_prefix_of g s.items))
  greatest_dot q s at = record {
    bound = λ p d h.
        let l = length_part q s h.0 h.1 at h.2 in
        let b = longest_bound (map (before_dot g) s.items) h.0 (before_dot g h.1) (mapped_at (before_dot g) s.items h.0 h.1 h.2) in
        omega (arith, l, b, h.4);
    reached = part_item q s (max_prefix_of g s.items) at (longest_is (map (before_dot g) s.items));
  }

  -- the shortest part that is not empty is as long as the least dot above 0
  pub least_dot : (q : ℕ) (s : Lr1State) → slice_get states q ≡ Some s → IsLeastDot s.items (length (will_pop_of g s.items))
  least_dot q s at = record {
    bound = λ p d h above.
        let l = length_part q s h.0 h.1 at h.2 in
        let b = shortest_bound (map (before_dot g) s.items) h.0 (before_dot g h.1) (mapped_at (before_dot g) s.items h.0 h.1 h.2) (omega (arith, l, h.4)) in
        (b.0, omega (arith, l, b.1, h.4));
    reached = part_item q s (will_pop_of g s.items) at (shortest_is (map (before_dot g) s.items));
  }

  -- ---- parts and paths
  module _ (ps : List ℕ) (xs : List SymbolNumber) (walks : IsWalk states 0 ps xs) (s : Lr1State) (at : slice_get states (end_of 0 ps) ≡ Some s) where
    -- what stands before the dot of an item are the last symbols of the path
    pub item_ends : (i : ℕ) (item : Item) → slice_get s.items i ≡ Some item → IsEnd (before_dot g item) (map (symbol_named g) xs)
    item_ends i item e =
        let r = item_rule (end_of 0 ps) s i item at e in
        let b = reach_back g start states valid ps xs item.production item.index walks (s, at, (i, item, e, refl, refl)) in
        let l = length_part (end_of 0 ps) s i item at e in
        let m = length-map xs (symbol_named g) in
        record {
          before = b.before;
          count = omega (arith, b.count, l, m);
          same = drop-map (symbol_named g) b.before xs ∙ ap (map (symbol_named g)) (b.same r.0 r.1) ∙ sym (part_by_rule item r.0 r.1);
        }

    -- a part that is chosen is one of these ends
    part_ends : (us : List Symbol) → (us ≡ []) ⊎ ((i : ℕ) × (slice_get (map (before_dot g) s.items) i ≡ Some us)) → IsEnd us (map (symbol_named g) xs)
    part_ends us o =
        ⊎_elim
        (λ (e : us ≡ []). subst (λ (vs : List Symbol). IsEnd vs (map (symbol_named g) xs)) (sym e) (nil_ends (map (symbol_named g) xs)))
        (λ (w : (i : ℕ) × (slice_get (map (before_dot g) s.items) i ≡ Some us)).
        let x = at_mapped (before_dot g) s.items w.0 us w.1 in
        subst (λ (vs : List Symbol). IsEnd vs (map (symbol_named g) xs)) (sym x.2) (item_ends w.0 x.0 x.1))
        o

    -- the slots are the last symbols of the path
    pub prefix_ends : IsEnd (max_prefix_of g s.items) (map (symbol_named g) xs)
    prefix_ends = part_ends (max_prefix_of g s.items) (longest_is (map (before_dot g) s.items))

    -- so are the fixed ones
    pub pop_ends : IsEnd (will_pop_of g s.items) (map (symbol_named g) xs)
    pop_ends = part_ends (will_pop_of g s.items) (shortest_is (map (before_dot g) s.items))

    -- of the parts before two dots the shorter is an end of the longer
    pub parts_nested : (i j : ℕ) (a b : Item) → slice_get s.items i ≡ Some a → slice_get s.items j ≡ Some b → length (before_dot g a) ≤ length (before_dot g b) → IsEnd (before_dot g a) (before_dot g b)
    parts_nested i j a b e f l = ends_nested (before_dot g a) (before_dot g b) (map (symbol_named g) xs) (item_ends i a e) (item_ends j b f) l
