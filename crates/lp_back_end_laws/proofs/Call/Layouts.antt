-- The slots of the states of valid tables: how many there are, how many are fixed, and which are cells.
use Rattle.std.proofs.Common.{◌≡◌, ◌≢◌, ◌⊎◌, ℕ, zero, suc, ◌+◌, ◌-◌, ◌<◌, ◌≤◌, Bool, true, false, cond, not, ◌||◌, List, [], ◌∷◌, length, map, take, Option, Some, None, slice_get, refl, sym, ap, ◌∙◌, ⊎_elim, inl, inr, subst, arith}
use Rattle.std.specs.BTreeMap.{values}
use Rattle.std.specs.List.{list_all, list_any}
use Rattle.std.specs.Map.{lookup, values_of}
use Rattle.std.specs.Option.{option_map, unwrap_or}
use Rattle.std.specs.Ordering.{nat_cmp, eq_by_cmp}
use Rattle.std.specs.Prelude.{nat_lt, ◌==◌, ◌&&◌}
use Rattle.std.proofs.lemmas.Bool.{le-leb}
use Rattle.std.proofs.lemmas.Bool.Decides.{nat_tests}
use Rattle.std.proofs.lemmas.List.{length-map}
use Rattle.std.proofs.lemmas.Map.Keys.{any_passes_from_place}
use Rattle.std.proofs.lemmas.Option.{same_Some, none-some, slice_get_within, slice_get-map}
use Rattle.lp_repr.specs.Closure.{next_symbol, HasItem}
use Rattle.lp_repr.specs.Numbering.{rules_of, productions_of, nonterminals_of, terminals_of, number_or_count}
use Rattle.lp_repr.specs.StateParts.{before_dot, max_prefix_of, will_pop_of}
use Rattle.lp_repr.specs.declared.lr1.Item.{Item}
use Rattle.lp_repr.specs.declared.lr1.Lr1State.{Lr1State}
use Rattle.lp_repr.specs.declared.lr1.Token.{Token}
use Rattle.lp_repr.specs.declared.numbering.SymbolNumber.{SymbolNumber}
use Rattle.lp_repr.specs.declared.numbering.SymbolNumber.TheVariants.{Terminal, Nonterminal}
use Rattle.lp_repr.specs.declared.repr.Grammar.{Grammar}
use Rattle.lp_repr.specs.declared.repr.Production.{Production}
use Rattle.lp_repr.specs.declared.repr.Symbol.{Symbol}
use Rattle.lp_repr.specs.declared.repr.Symbol.TheVariants as symbol
use Rattle.lp_repr.specs.declared.repr.NonterminalString.{NonterminalString}
use Rattle.lp_repr.specs.declared.repr.TerminalString.{TerminalString}
use Rattle.lp_repr.specs.declared.repr.TerminalString.TheVariants.{Error}
use Rattle.lp_valid.specs.ValidGrammar.{IsValidGrammar}
use Rattle.lp_driver.specs.DriverState.{last_of}
use Rattle.lp_machine.specs.Lookup.{act_at}
use Rattle.lp_machine.specs.Tables.{Tables}
use Rattle.lp_machine.specs.declared.lookup.Act.TheVariants.{ReduceBy}
use Rattle.lp_machine.specs.declared.lookup.Rule as machine
use Rattle.lp_turn_laws.specs.Paths.Ends.{symbol_named}
use Rattle.lp_turn_laws.specs.Paths.Over.{IsOver}
use Rattle.lp_turn_laws.specs.Paths.Walks.{edge_in, edge_from, edge_at, Has, IsPath}
use Rattle.lp_turn_laws.proofs.Paths.Edges.{edge_source, next_from, first_at_0, state_0}
use Rattle.lp_turn_laws.proofs.Paths.MachineRules.{agree}
use Rattle.lp_turn_laws.proofs.Paths.Names.{produces}
use Rattle.lp_turn_laws.proofs.Paths.OneAction.{reduces_listed}
use Rattle.lp_turn_laws.proofs.Paths.Numbered.{mapped_at, at_mapped}
use Rattle.lp_turn_laws.proofs.Paths.Over.{slots}
use Rattle.lp_turn_laws.proofs.Paths.Parts.{longest_is}
use Rattle.lp_turn_laws.proofs.Paths.Reductions.{at_within}
use Rattle.lp_turn_laws.proofs.Paths.SlotEdges.{least_within, fixed_some, slots_some, slots_grow, fixed_grow, no_slots_at_0}
use Rattle.lp_turn_laws.proofs.Paths.Slots.{item_within, length_part, greatest_dot, least_dot}
use Rattle.lp_ascent.specs.GotoLines.{has_one_fixed, pops_nothing, is_empty_reduction, goes_on}
use Rattle.lp_ascent.specs.Ranges.{is_within, is_in_range}
use Rattle.lp_ascent.specs.Slots.{Layout, count_of, optional_of, is_cell, is_terminal, has_lookahead, needs_cells, no_slots, item_slots, plain_slots, layout_at, needs_cells_at, leads_to_cells, made_cells, slots_for, layouts_of}
use Rattle.lp_back_end_laws.specs.Call.Slots.{layout}
use Rattle.lp_back_end_laws.proofs.Call.Items.{item_back, edge_states, reduces_item, first_has_goto, top_entered}

-- ---- layouts
-- the layout of a place
placed : (ls : List Layout) (n : ℕ) (l : Layout) → slice_get ls n ≡ Some l → layout_at ls n ≡ l
placed ls n l at = ap (λ (o : Option Layout). unwrap_or o no_slots) at

-- no state has no slots
unplaced : (g : Grammar) (states : List Lr1State) (q : ℕ) → slice_get states q ≡ None → layout g states q ≡ no_slots
unfolding layouts_of
unplaced g states q none = ap (λ (o : Option Layout). unwrap_or o no_slots) (slice_get-map (slots_for g (map (plain_slots g) states)) states q ∙ ap (option_map (slots_for g (map (plain_slots g) states))) none)

-- where each passes, all do
each_passes : {X : Type 0} (test : X → Bool) (xs : List X) → ((i : ℕ) (x : X) → slice_get xs i ≡ Some x → test x ≡ true) → list_all test xs ≡ true
each_passes test [] h = refl
each_passes test (x ∷ xs) h = ap (λ (b : Bool). b && list_all test xs) (h 0 x refl) ∙ each_passes test xs (λ i y e. h (suc i) y e)

-- a dot that stands within a production
within : (dot : ℕ) (o : Option Production) (p : Production) → o ≡ Some p → dot ≤ length p.symbols → is_within dot o ≡ true
within dot o p e l = ap (is_within dot) e ∙ le-leb dot (length p.symbols) l

-- ---- cells
-- what is one or more
one_or_more : (n : ℕ) → 1 ≤ n → (n ≡ 1) ⊎ (2 ≤ n)
one_or_more zero l = absurd (omega arith)
one_or_more (suc zero) l = inl refl
one_or_more (suc (suc n)) l = inr (omega arith)

-- a test of numbers that passes, and one that fails
passes_less : (a b : ℕ) → a < b → nat_lt a b ≡ true
passes_less a b l = grind (arith, nat_tests)

fails_less : (a b : ℕ) → b ≤ a → nat_lt a b ≡ false
fails_less a b l = grind (arith, nat_tests)

-- one of two tests
either_true : (a b : Bool) → b ≡ true → (a || b) ≡ true
either_true true b e = refl
either_true false b e = e

first_true : (a b : Bool) → a ≡ true → (a || b) ≡ true
first_true a b e = ap (λ (c : Bool). c || b) e

either_first : (a b : Bool) → b ≡ false → (a || b) ≡ a
either_first true b e = refl
either_first false b e = e

-- a slot that comes as a cell is one
pub optional_cell : (l : Layout) (j : ℕ) → j < optional_of l → is_cell l j ≡ true
optional_cell l j k = either_true l.made_optional (nat_lt j (optional_of l)) (passes_less j (optional_of l) k)

-- where the fixed ones are made cells, all are
pub made_cell : (l : Layout) (j : ℕ) → l.made_optional ≡ true → is_cell l j ≡ true
made_cell l j e = first_true l.made_optional (nat_lt j (optional_of l)) e

-- a fixed slot is a cell exactly where they are made cells
pub fixed_cell : (l : Layout) (j : ℕ) → optional_of l ≤ j → is_cell l j ≡ l.made_optional
fixed_cell l j k = either_first l.made_optional (nat_lt j (optional_of l)) (fails_less j (optional_of l) k)

-- S9: so is the top one
pub top_cell : (l : Layout) → 1 ≤ l.fixed → l.fixed ≤ count_of l → is_cell l (count_of l - 1) ≡ l.made_optional
top_cell l some below = fixed_cell l (count_of l - 1) (omega arith)

-- a callee with one fixed slot above others needs cells
needs : (l : Layout) → l.fixed ≡ 1 → 2 ≤ count_of l → needs_cells l ≡ true
needs l one several = ap (λ (n : ℕ). (n == 1) && nat_lt 0 (count_of l - n)) one ∙ passes_less 0 (count_of l - 1) (omega arith)

-- ---- maps
-- what is looked up passes a test, so some value does
any_value : {K X : Type 0} (key : K → Bool) (test : X → Bool) (es : List (K × X)) (v : X) → lookup key es ≡ Some v → test v ≡ true → list_any test (values_of es) ≡ true
any_value key test [] v e h = absurd (none-some v e)
any_value {K} {X} key test (x ∷ es) v e h =
    elim (key x.0) as (λ b. cond b (Some x.1) (lookup key es) ≡ Some v → (test x.1 || list_any test (values_of es)) ≡ true) [
      | true ↦ λ f. first_true (test x.1) (list_any test (values_of es)) (ap test (same_Some x.1 v f) ∙ h)
      | false ↦ λ f. either_true (test x.1) (list_any test (values_of es)) (any_value key test es v f h)
    ] e

-- the entry of what is looked up
pub entry_place : {K X : Type 0} (test : K → Bool) (es : List (K × X)) (v : X) → lookup test es ≡ Some v → (i : ℕ) × (k : K) × (slice_get es i ≡ Some (k, v)) × (test k ≡ true)
entry_place test [] v e = absurd (none-some v e)
entry_place {K} {X} test (x ∷ es) v e =
    elim (test x.0) as (λ b. test x.0 ≡ b → cond b (Some x.1) (lookup test es) ≡ Some v → (i : ℕ) × (k : K) × (slice_get (x ∷ es) i ≡ Some (k, v)) × (test k ≡ true)) [
      | true ↦ λ f h. (0, x.0, ap (λ (y : X). Some (x.0, y)) (same_Some x.1 v h), f)
      | false ↦ λ f h. let w = entry_place test es v h in (suc w.0, w.1, w.2, w.3)
    ] refl e

-- keys that compare equal are one
pub same_key : (n k : ℕ) → eq_by_cmp nat_cmp n k ≡ true → n ≡ k
same_key n k e = grind (arith, nat_tests)

-- what is some isn't 0
some_length : (n : ℕ) → 0 < n → (n == 0) ≡ false
some_length n l = grind (arith, nat_tests)

-- ---- symbols
-- the symbol of a terminal's number is a terminal
terminal_named : (g : Grammar) (n : ℕ) → is_terminal (Some (symbol_named g (Terminal n))) ≡ true
terminal_named g n = of_option (slice_get (terminals_of g) n)
  where
    of_option : (o : Option TerminalString) → is_terminal (Some (unwrap_or (option_map symbol.Terminal o) (symbol.Terminal Error))) ≡ true
    of_option None = refl
    of_option (Some name) = refl

-- that of a nonterminal's is none
nonterminal_named : (g : Grammar) (n : ℕ) → n < length (nonterminals_of g) → is_terminal (Some (symbol_named g (Nonterminal n))) ≡ false
nonterminal_named g n l = of_option (slice_get (nonterminals_of g) n) (at_within (nonterminals_of g) n l).1
  where
    of_option : {name : NonterminalString} (o : Option NonterminalString) → o ≡ Some name → is_terminal (Some (unwrap_or (option_map symbol.Nonterminal o) (symbol.Terminal Error))) ≡ false
    of_option None e = absurd (none-some _ e)
    of_option (Some m) e = refl

-- an element of a first part
taken_at : {X : Type 0} (n i : ℕ) (xs : List X) (x : X) → i < n → slice_get xs i ≡ Some x → slice_get (take n xs) i ≡ Some x
taken_at zero i xs x l e = absurd (omega arith)
taken_at (suc n) i [] x l e = absurd (none-some x e)
taken_at (suc n) zero (y ∷ xs) x l e = e
taken_at (suc n) (suc i) (y ∷ xs) x l e = taken_at n i xs x (omega arith) e

-- the symbol before an item's dot is the last of its part
part_last : (g : Grammar) → IsValidGrammar g → (item : Item) (e : ℕ) (x : SymbolNumber) → item.index ≡ suc e → next_symbol (rules_of g) item.production e ≡ Some x → slice_get (before_dot g item) e ≡ Some (symbol_named g x)
part_last g grammar item e x dot next =
    let w = next_from (slice_get (rules_of g) item.production) e x next in
    let p = produces g grammar item.production w.0 w.1 in
    let here : slice_get p.production.symbols e ≡ Some (symbol_named g x) = ap (λ (ss : List Symbol). slice_get ss e) (sym p.named) ∙ mapped_at (symbol_named g) (w.0).right e x w.2 in
    ap (λ (o : Option Production). slice_get (take item.index (unwrap_or (option_map (λ (q : Production). q.symbols) o) [])) e) p.at
    ∙ taken_at item.index e p.production.symbols (symbol_named g x) (omega arith) here

module _ {g : Grammar} {start : ℕ} {states : List Lr1State} {t : Tables} (over : IsOver g start states t) where
  -- a state's items are in range, so its slots are those of its items
  plain_is : (q : ℕ) (s : Lr1State) → slice_get states q ≡ Some s → plain_slots g s ≡ item_slots g s
  plain_is q s at =
      ap (λ (b : Bool). cond b (item_slots g s) no_slots) (each_passes (is_in_range (productions_of g)) s.items (λ i item e.
      let w = item_within g over.grammar start states over.tables q s i item at e in
      within item.index (slice_get (productions_of g) item.production) w.0 w.1 w.2))

  -- the slots of a state before it is known which become cells
  plain_at : (q : ℕ) (s : Lr1State) → slice_get states q ≡ Some s → layout_at (map (plain_slots g) states) q ≡ item_slots g s
  plain_at q s at = placed (map (plain_slots g) states) q (plain_slots g s) (mapped_at (plain_slots g) states q s at) ∙ plain_is q s at

  -- the slots of a state
  pub layout_is : (q : ℕ) (s : Lr1State) → slice_get states q ≡ Some s → layout g states q ≡ made_cells (leads_to_cells (map (plain_slots g) states) s) (item_slots g s)
  unfolding layouts_of
  layout_is q s at =
      placed (layouts_of g states) q (slots_for g (map (plain_slots g) states) s) (mapped_at (slots_for g (map (plain_slots g) states)) states q s at)
      ∙ ap (made_cells (leads_to_cells (map (plain_slots g) states) s)) (plain_is q s at)

  -- how many there are
  pub count_is : (q : ℕ) (s : Lr1State) → slice_get states q ≡ Some s → count_of (layout g states q) ≡ length (max_prefix_of g s.items)
  count_is q s at = ap count_of (layout_is q s at)

  -- how many are fixed
  pub fixed_is : (q : ℕ) (s : Lr1State) → slice_get states q ≡ Some s → (layout g states q).fixed ≡ length (will_pop_of g s.items)
  fixed_is q s at = ap (λ (l : Layout). l.fixed) (layout_is q s at)

  -- whether all become cells
  pub made_is : (q : ℕ) (s : Lr1State) → slice_get states q ≡ Some s → (layout g states q).made_optional ≡ leads_to_cells (map (plain_slots g) states) s
  made_is q s at = ap (λ (l : Layout). l.made_optional) (layout_is q s at)

  -- ---- S1: state 0 has none
  pub first_layout : (count_of (layout g states 0) ≡ 0) × ((layout g states 0).fixed ≡ 0)
  first_layout =
      let w = state_0 g start states over.tables in
      let n = no_slots_at_0 g over.grammar start states over.tables w.0 w.1 in
      (count_is 0 w.0 w.1 ∙ ap length n.0, fixed_is 0 w.0 w.1 ∙ ap length n.1)

  -- ---- S2: dots
  -- a dot above 0 is at least the number of fixed slots and at most that of all
  pub dot_within : (q y d : ℕ) → Has states q y d → 0 < d → (1 ≤ (layout g states q).fixed) × ((layout g states q).fixed ≤ d) × (d ≤ count_of (layout g states q))
  dot_within q y d h above =
      let f = (least_dot g over.grammar start states over.tables q h.0 h.1).bound y d h.2 above in
      let m = (greatest_dot g over.grammar start states over.tables q h.0 h.1).bound y d h.2 in
      let c = count_is q h.0 h.1 in
      let e = fixed_is q h.0 h.1 in
      (omega (arith, e, f.0), omega (arith, e, f.1), omega (arith, c, m))

  -- any dot is at most that
  pub dot_below : (q y d : ℕ) → Has states q y d → d ≤ count_of (layout g states q)
  dot_below q y d h =
      let m = (greatest_dot g over.grammar start states over.tables q h.0 h.1).bound y d h.2 in
      let c = count_is q h.0 h.1 in
      omega (arith, c, m)

  -- there are no more fixed slots than slots
  pub fixed_below : (q : ℕ) → (layout g states q).fixed ≤ count_of (layout g states q)
  fixed_below q = by_state (slice_get states q) refl
    where
      by_state : (o : Option Lr1State) → slice_get states q ≡ o → (layout g states q).fixed ≤ count_of (layout g states q)
      by_state None e = subst (λ (l : Layout). l.fixed ≤ count_of l) (sym (unplaced g states q e)) (omega arith)
      by_state (Some s) at =
          let l = least_within s.items (length (max_prefix_of g s.items)) (length (will_pop_of g s.items)) (greatest_dot g over.grammar start states over.tables q s at) (least_dot g over.grammar start states over.tables q s at) in
          let c = count_is q s at in
          let e = fixed_is q s at in
          omega (arith, c, e, l)

  -- where a slot is fixed, some item has the dot above the fixed ones
  pub least_item : (q : ℕ) (s : Lr1State) → slice_get states q ≡ Some s → 1 ≤ (layout g states q).fixed → (y : ℕ) × Has states q y (layout g states q).fixed
  least_item q s at some =
      let e = fixed_is q s at in
      ⊎_elim
      (λ (z : length (will_pop_of g s.items) ≡ 0). absurd (omega (arith, e, z)))
      (λ (w : (y : ℕ) × HasItem s.items y (length (will_pop_of g s.items))). (w.0, (s, at, subst (HasItem s.items w.0) (sym e) w.1)))
      (least_dot g over.grammar start states over.tables q s at).reached

  -- ---- S4, S6: over an edge
  -- its target has a fixed slot
  pub fixed_above : (q : ℕ) (x : SymbolNumber) (p : ℕ) → edge_at states q x ≡ Some p → 1 ≤ (layout g states p).fixed
  fixed_above q x p edge =
      let w = edge_states over q x p edge in
      let f = fixed_some g over.grammar start states over.tables q x p edge w.1 w.3 in
      let e = fixed_is p w.1 w.3 in
      omega (arith, e, f)

  -- and at most one slot more than the source
  pub count_grows : (q : ℕ) (x : SymbolNumber) (p : ℕ) → edge_at states q x ≡ Some p → count_of (layout g states p) ≤ count_of (layout g states q) + 1
  count_grows q x p edge =
      let w = edge_states over q x p edge in
      let l = slots_grow g over.grammar start states over.tables q x p edge w.1 w.3 w.0 w.2 in
      let c = count_is q w.0 w.2 in
      let d = count_is p w.1 w.3 in
      omega (arith, c, d, l)

  -- ---- S7: several fixed slots
  -- a target with more than one has more than the source, which is not state 0
  pub fixed_grows : (q : ℕ) (x : SymbolNumber) (p : ℕ) → edge_at states q x ≡ Some p → 2 ≤ (layout g states p).fixed → (q ≢ 0) × ((layout g states q).fixed + 1 ≤ (layout g states p).fixed)
  fixed_grows q x p edge several =
      let w = edge_states over q x p edge in
      let e = fixed_is p w.1 w.3 in
      let f = fixed_is q w.0 w.2 in
      let i = least_item p w.1 w.3 (omega arith) in
      let b = item_back over q x p i.0 (layout g states p).fixed edge i.1 (omega arith) in (
        λ first.
            let z = first_at_0 g start states over.tables i.0 b.0 (subst (λ (k : ℕ). Has states k i.0 b.0) first b.2) in
            omega (arith, z, b.1),
        ⊎_elim
            (λ (o : length (will_pop_of g w.1.items) ≡ 1). absurd (omega (arith, e, o)))
            (λ (l : length (will_pop_of g w.0.items) < length (will_pop_of g w.1.items)). omega (arith, e, f, l))
            (fixed_grow g over.grammar start states over.tables q x p edge w.1 w.3 w.0 w.2),
      )

  -- so the slots that aren't among so many from the top with the new one come as cells
  pub below_fixed : (q : ℕ) (x : SymbolNumber) (p j : ℕ) → edge_at states q x ≡ Some p → 2 ≤ (layout g states p).fixed → j + (layout g states p).fixed < count_of (layout g states q) + 1 → j < optional_of (layout g states q)
  below_fixed q x p j edge several l =
      let f = (fixed_grows q x p edge several).1 in
      omega (arith, f, l)

  -- ---- S8: one fixed slot above others
  -- then the source's are all cells
  pub made_for : (q : ℕ) (x : SymbolNumber) (p : ℕ) → edge_at states q x ≡ Some p → (layout g states p).fixed ≡ 1 → 2 ≤ count_of (layout g states p) → (layout g states q).made_optional ≡ true
  made_for q x p edge one several =
      let w = edge_states over q x p edge in
      let c = count_is p w.1 w.3 in
      let f = fixed_is p w.1 w.3 in
      let n = needs (item_slots g w.1) (sym f ∙ one) (omega (arith, c)) in
      let s = edge_source (slice_get states q) x p edge in
      made_is q s.0 s.1 ∙ leads s.0 x s.2 (ap needs_cells (plain_at p w.1 w.3) ∙ n)
    where
      leads : (s : Lr1State) (x : SymbolNumber) → edge_in s x ≡ Some p → needs_cells_at (map (plain_slots g) states) p ≡ true → leads_to_cells (map (plain_slots g) states) s ≡ true
      leads s (Terminal n) e h = first_true (list_any (needs_cells_at (map (plain_slots g) states)) (values s.shifts)) _ (any_value _ (needs_cells_at (map (plain_slots g) states)) (s.shifts).entries p e h)
      leads s (Nonterminal n) e h = either_true (list_any (needs_cells_at (map (plain_slots g) states)) (values s.shifts)) _ (any_value _ (needs_cells_at (map (plain_slots g) states)) (s.gotos).entries p e h)

  -- without that a target with one fixed slot has no other
  pub one_slot : (q : ℕ) (x : SymbolNumber) (p : ℕ) → edge_at states q x ≡ Some p → (layout g states p).fixed ≡ 1 → (layout g states q).made_optional ≡ false → count_of (layout g states p) ≡ 1
  one_slot q x p edge one none =
      let b = fixed_below p in
      ⊎_elim
      (λ (e : count_of (layout g states p) ≡ 1). e)
      (λ (several : 2 ≤ count_of (layout g states p)). (let m = made_for q x p edge one several in absurd (cc)))
      (one_or_more (count_of (layout g states p)) (omega (arith, b)))

  -- S7 and S8: what a target takes as a cell is a cell of the source
  pub handed_cell : (q : ℕ) (x : SymbolNumber) (p j : ℕ) → edge_at states q x ≡ Some p → j < optional_of (layout g states p) → is_cell (layout g states q) (j + (count_of (layout g states q) + 1 - count_of (layout g states p))) ≡ true
  handed_cell q x p j edge l =
      let f = fixed_above q x p edge in
      let c = count_grows q x p edge in
      ⊎_elim
      (λ (one : (layout g states p).fixed ≡ 1). made_cell (layout g states q) _ (made_for q x p edge one (omega arith)))
      (λ (several : 2 ≤ (layout g states p).fixed). optional_cell (layout g states q) _ (below_fixed q x p _ edge several (omega arith)))
      (one_or_more (layout g states p).fixed f)

  -- S9: in a state that an edge leads to the top slot is a cell exactly where all are
  pub target_top : (q : ℕ) (x : SymbolNumber) (p : ℕ) → edge_at states q x ≡ Some p → is_cell (layout g states p) (count_of (layout g states p) - 1) ≡ (layout g states p).made_optional
  target_top q x p edge = top_cell (layout g states p) (fixed_above q x p edge) (fixed_below p)

  -- ---- S5: the symbol of an edge
  -- it is that of the target's last slot
  pub last_slot : (q : ℕ) (x : SymbolNumber) (p : ℕ) → edge_at states q x ≡ Some p → slice_get (layout g states p).symbols (count_of (layout g states p) - 1) ≡ Some (symbol_named g x)
  last_slot q x p edge =
      let w = edge_states over q x p edge in
      let some = slots_some g over.grammar start states over.tables q x p edge w.1 w.3 in
      ap (λ (l : Layout). slice_get l.symbols (count_of l - 1)) (layout_is p w.1 w.3) ∙ of_longest w.1 w.3 some (longest_is (map (before_dot g) (w.1).items))
    where
      of_item : (u : Lr1State) (i : ℕ) (item : Item) (d : ℕ) → slice_get states p ≡ Some u → slice_get u.items i ≡ Some item → item.index ≡ d → 0 < d → slice_get (before_dot g item) (d - 1) ≡ Some (symbol_named g x)
      of_item u i item d to e dot l =
          let b = item_back over q x p item.production d edge (u, to, (i, item, e, refl, dot)) l in
          let k : b.0 ≡ d - 1 = omega (arith, b.1) in
          subst (λ (n : ℕ). slice_get (before_dot g item) n ≡ Some (symbol_named g x)) k (part_last g over.grammar item b.0 x (omega (arith, b.1)) b.3)

      of_longest : (u : Lr1State) → slice_get states p ≡ Some u → 0 < length (max_prefix_of g u.items) → (max_prefix_of g u.items ≡ []) ⊎ ((i : ℕ) × (slice_get (map (before_dot g) u.items) i ≡ Some (max_prefix_of g u.items))) → slice_get (max_prefix_of g u.items) (length (max_prefix_of g u.items) - 1) ≡ Some (symbol_named g x)
      of_longest u to some o =
          ⊎_elim
          (λ (e : max_prefix_of g u.items ≡ []). (let n : length (max_prefix_of g u.items) ≡ 0 = ap length e in absurd (omega arith)))
          (λ (v : (i : ℕ) × (slice_get (map (before_dot g) u.items) i ≡ Some (max_prefix_of g u.items))).
          let m = at_mapped (before_dot g) u.items v.0 (max_prefix_of g u.items) v.1 in
          let n = length_part g over.grammar start states over.tables p u v.0 m.0 to m.1 in
          subst (λ (ss : List Symbol). slice_get ss (length ss - 1) ≡ Some (symbol_named g x)) (sym m.2) (of_item u v.0 m.0 (length (before_dot g m.0)) to m.1 (sym n) (subst (λ (ss : List Symbol). 0 < length ss) m.2 some)))
          o

  -- the target of a shift pulls the lookahead
  pub shift_pulls : (q n p : ℕ) → edge_at states q (Terminal n) ≡ Some p → has_lookahead (layout g states p) ≡ false
  shift_pulls q n p edge = ap (λ (o : Option Symbol). not (is_terminal o)) (last_slot q (Terminal n) p edge) ∙ ap not (terminal_named g n)

  -- that of a goto is handed it
  pub goto_hands : (q n p : ℕ) → edge_at states q (Nonterminal n) ≡ Some p → has_lookahead (layout g states p) ≡ true
  goto_hands q n p edge =
      let s = edge_source (slice_get states q) (Nonterminal n) p edge in
      let l = (((over.tables).each q s.0 s.1).gotos_in_range n p s.2).0 in
      ap (λ (o : Option Symbol). not (is_terminal o)) (last_slot q (Nonterminal n) p edge) ∙ ap not (nonterminal_named g n l)

  -- so is state 0
  pub first_handed : has_lookahead (layout g states 0) ≡ true
  first_handed =
      let w = state_0 g start states over.tables in
      let n = no_slots_at_0 g over.grammar start states over.tables w.0 w.1 in
      ap has_lookahead (layout_is 0 w.0 w.1) ∙ ap (λ (ss : List Symbol). not (is_terminal (slice_get ss (length ss - 1)))) n.0

  -- ---- S6: on a path
  -- the top state has no more slots than there are symbols
  pub path_count : (stack : List ℕ) (xs : List SymbolNumber) (q : ℕ) → IsPath states stack xs → last_of stack ≡ Some q → count_of (layout g states q) ≤ length xs
  path_count stack xs q path top = by_state (slice_get states q) refl
    where
      by_state : (o : Option Lr1State) → slice_get states q ≡ o → count_of (layout g states q) ≤ length xs
      by_state None e = subst (λ (l : Layout). count_of l ≤ length xs) (sym (unplaced g states q e)) (omega arith)
      by_state (Some s) at =
          let e = (slots over stack xs path q top s at).count in
          let m = length-map xs (symbol_named g) in
          let c = count_is q s at in
          omega (arith, e, m, c)

  -- ---- S12: reductions
  -- the machine's rule takes off no more slots than there are, and all fixed ones where it takes off any
  pub reduced_within : (q : ℕ) (token : Token) (y : ℕ) (rule : machine.Rule) → act_at states q token ≡ ReduceBy y → t.rule y ≡ Some rule → (rule.length ≤ count_of (layout g states q)) × (0 < rule.length → (layout g states q).fixed ≤ rule.length)
  reduced_within q token y rule act known =
      let h = reduces_item over q token y rule act known in
      (dot_below q y rule.length h, λ l. (dot_within q y rule.length h l).1)

  -- ---- S13: going on
  -- a state that shifts to one with one fixed slot goes on
  pub shift_goes_on : (q n p : ℕ) (s : Lr1State) → slice_get states q ≡ Some s → edge_at states q (Terminal n) ≡ Some p → (layout g states p).fixed ≡ 1 → goes_on g (layouts_of g states) s ≡ true
  unfolding goes_on
  shift_goes_on q n p s at edge one =
      let e = sym (ap (λ (o : Option Lr1State). edge_from o (Terminal n)) at) ∙ edge in
      first_true (list_any (has_one_fixed (layouts_of g states)) (values s.shifts)) _ (any_value _ (has_one_fixed (layouts_of g states)) (s.shifts).entries p e (ap (λ (k : ℕ). k == 1) one))

  -- so does one that reduces no symbol
  pub empty_goes_on : (q : ℕ) (s : Lr1State) (token : Token) (y : ℕ) (rule : machine.Rule) → slice_get states q ≡ Some s → act_at states q token ≡ ReduceBy y → t.rule y ≡ Some rule → rule.length ≡ 0 → goes_on g (layouts_of g states) s ≡ true
  unfolding goes_on
  empty_goes_on q s token y rule at act known none =
      let w = reduces_listed (slice_get states q) token y act in
      let same = same_Some w.0 s (sym w.1 ∙ at) in
      let here : slice_get s.reductions w.2 ≡ Some w.3 = subst (λ (u : Lr1State). slice_get u.reductions w.2 ≡ Some w.3) same w.5 in
      let a = agree g over.grammar y rule (sym ((over.known).rule y) ∙ known) in
      let p = produces g over.grammar y a.rule a.at in
      let l : length p.production.symbols ≡ 0 = sym (length-map p.production.symbols (number_or_count g)) ∙ sym (ap length p.right) ∙ sym a.length_is ∙ none in
      let some = slice_get_within (w.3).0 w.4 token w.7 in
      let pops : pops_nothing (slice_get (productions_of g) (w.3).1) ≡ true = ap (λ (k : ℕ). pops_nothing (slice_get (productions_of g) k)) w.6 ∙ ap pops_nothing p.at ∙ ap (λ (k : ℕ). k == 0) l in
      either_true (list_any (has_one_fixed (layouts_of g states)) (values s.shifts)) _ (any_passes_from_place (is_empty_reduction (productions_of g)) s.reductions w.2 w.3 here (ap (λ (b : Bool). not b && pops_nothing (slice_get (productions_of g) (w.3).1)) (some_length (length (w.3).0) (omega (arith, some))) ∙ pops))

  -- where it is the top of a path, and not state 0, it has a goto
  pub shift_has_goto : (stack : List ℕ) (xs : List SymbolNumber) (q : ℕ) (x : SymbolNumber) (p : ℕ) → IsPath states stack xs → last_of stack ≡ Some q → q ≢ 0 → edge_at states q x ≡ Some p → (layout g states p).fixed ≡ 1 → (n to : ℕ) × (edge_at states q (Nonterminal n) ≡ Some to)
  shift_has_goto stack xs q x p path top other edge one =
      let w = edge_states over q x p edge in
      let i = least_item p w.1 w.3 (omega arith) in
      let b = item_back over q x p i.0 (layout g states p).fixed edge i.1 (omega arith) in
      let z : b.0 ≡ 0 = omega (arith, b.1) in
      first_has_goto over stack xs q i.0 path top other (subst (Has states q i.0) z b.2)

  pub empty_has_goto : (stack : List ℕ) (xs : List SymbolNumber) (q : ℕ) (token : Token) (y : ℕ) (rule : machine.Rule) → IsPath states stack xs → last_of stack ≡ Some q → q ≢ 0 → act_at states q token ≡ ReduceBy y → t.rule y ≡ Some rule → rule.length ≡ 0 → (n to : ℕ) × (edge_at states q (Nonterminal n) ≡ Some to)
  empty_has_goto stack xs q token y rule path top other act known none =
      first_has_goto over stack xs q y path top other (subst (Has states q y) none (reduces_item over q token y rule act known))

  -- ---- the top of a path
  -- S4: but for state 0 it has a fixed slot
  pub top_fixed : (stack : List ℕ) (xs : List SymbolNumber) (q : ℕ) → IsPath states stack xs → last_of stack ≡ Some q → q ≢ 0 → 1 ≤ (layout g states q).fixed
  top_fixed stack xs q path top other =
      ⊎_elim (λ (e : q ≡ 0). absurd (other e)) (λ (e : (r : ℕ) × (x : SymbolNumber) × (edge_at states r x ≡ Some q)). fixed_above e.0 e.1 q e.2) (top_entered states stack xs q path top)

  -- S9: and its top slot is a cell exactly where all are
  pub top_slot : (stack : List ℕ) (xs : List SymbolNumber) (q : ℕ) → IsPath states stack xs → last_of stack ≡ Some q → q ≢ 0 → is_cell (layout g states q) (count_of (layout g states q) - 1) ≡ (layout g states q).made_optional
  top_slot stack xs q path top other = top_cell (layout g states q) (top_fixed stack xs q path top other) (fixed_below q)

  -- S5: it is handed the lookahead, or it was shifted to
  pub handed_or_shifted : (stack : List ℕ) (xs : List SymbolNumber) (q : ℕ) → IsPath states stack xs → last_of stack ≡ Some q → (has_lookahead (layout g states q) ≡ true) ⊎ ((has_lookahead (layout g states q) ≡ false) × ((r n : ℕ) × (edge_at states r (Terminal n) ≡ Some q)))
  handed_or_shifted stack xs q path top =
      ⊎_elim
      (λ (e : q ≡ 0). inl (ap (λ (i : ℕ). has_lookahead (layout g states i)) e ∙ first_handed))
      (λ (e : (r : ℕ) × (x : SymbolNumber) × (edge_at states r x ≡ Some q)). by_symbol e.0 e.1 e.2)
      (top_entered states stack xs q path top)
    where
      by_symbol : (r : ℕ) (x : SymbolNumber) → edge_at states r x ≡ Some q → (has_lookahead (layout g states q) ≡ true) ⊎ ((has_lookahead (layout g states q) ≡ false) × ((r n : ℕ) × (edge_at states r (Terminal n) ≡ Some q)))
      by_symbol r (Terminal n) e = inr (shift_pulls r n q e, (r, n, e))
      by_symbol r (Nonterminal n) e = inl (goto_hands r n q e)
