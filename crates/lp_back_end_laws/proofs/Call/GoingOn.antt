-- S13: frames that go on after a callee, and the arms of their gotos.
use Rattle.std.proofs.Common.{◌≡◌, ◌≢◌, ◌⊎◌, ℕ, zero, suc, ◌<◌, Bool, true, false, cond, not, ◌||◌, List, [], ◌∷◌, ◌++◌, length, Option, Some, slice_get, refl, sym, ap, ◌∙◌, ⊎_elim, inl, inr, subst, arith}
use Rattle.std.specs.BTreeMap.{get, values}
use Rattle.std.specs.List.{list_any}
use Rattle.std.specs.Map.{lookup}
use Rattle.std.specs.Ordering.{nat_cmp, eq_by_cmp}
use Rattle.std.specs.Prelude.{◌==◌}
use Rattle.std.proofs.lemmas.Bool.{and_parts}
use Rattle.std.proofs.lemmas.Bool.Decides.{nat_tests}
use Rattle.std.proofs.lemmas.List.Concat.{flat_map-cons}
use Rattle.std.proofs.lemmas.List.{length-map}
use Rattle.std.proofs.lemmas.Option.{same_Some, none-some}
use Rattle.lp_repr.specs.Numbering.{productions_of, nonterminals_of, number_or_count}
use Rattle.lp_repr.specs.declared.lr1.Lr1State.{Lr1State}
use Rattle.lp_repr.specs.declared.lr1.Token.{Token}
use Rattle.lp_repr.specs.declared.numbering.SymbolNumber.{SymbolNumber}
use Rattle.lp_repr.specs.declared.numbering.SymbolNumber.TheVariants.{Terminal, Nonterminal}
use Rattle.lp_repr.specs.declared.repr.Grammar.{Grammar}
use Rattle.lp_repr.specs.declared.repr.NonterminalString.{NonterminalString}
use Rattle.lp_repr.specs.declared.repr.Production.{Production}
use Rattle.lp_driver.specs.DriverState.{last_of}
use Rattle.lp_machine.specs.Tables.{Tables}
use Rattle.lp_turn_laws.specs.Paths.Over.{IsOver}
use Rattle.lp_turn_laws.specs.Paths.Walks.{edge_from, edge_at, Has, IsPath}
use Rattle.lp_turn_laws.proofs.Paths.MachineRules.{any_place}
use Rattle.lp_turn_laws.proofs.Paths.Names.{produces}
use Rattle.lp_turn_laws.proofs.Paths.Numbered.{at_mapped, mapped_at}
use Rattle.lp_turn_laws.proofs.Paths.Reductions.{at_within, complete_at}
use Rattle.lp_ascent.specs.AnswerLines.{answer_name, answer_names}
use Rattle.lp_ascent.specs.GotoLines.{has_one_fixed, pops_nothing, is_empty_reduction, goes_on, goto_if, named_goto, named_gotos}
use Rattle.lp_ascent.specs.Slots.{Layout, layout_at, layouts_of}
use Rattle.lp_back_end_laws.proofs.Call.Items.{first_has_goto}
use Rattle.lp_back_end_laws.proofs.Call.Layouts.{entry_place, same_key, shift_has_goto}
use Rattle.lp_back_end_laws.proofs.Call.Arms.{shift_edge}

-- ---- tests
-- one of two passes
or_cases : (a b : Bool) → (a || b) ≡ true → (a ≡ true) ⊎ (b ≡ true)
or_cases true b e = inl refl
or_cases false b e = inr e

-- numbers that test equal are
is_same : (a b : ℕ) → (a == b) ≡ true → a ≡ b
is_same a b e = grind (arith, nat_tests)

-- what pops nothing has no symbol
popping : (o : Option Production) (p : Production) → o ≡ Some p → pops_nothing o ≡ true → length p.symbols ≡ 0
popping o p e h = is_same (length p.symbols) 0 (sym (ap pops_nothing e) ∙ h)

-- ---- why a frame goes on
module _ (g : Grammar) (ls : List Layout) (s : Lr1State) where
  -- it shifts to a state with one fixed slot
  pub record ShiftsToOne : Type 0 where
    pub place : ℕ
    pub terminal : ℕ
    pub target : ℕ
    pub at : slice_get (s.shifts).entries place ≡ Some (terminal, target)
    pub one : (layout_at ls target).fixed ≡ 1

  -- or it reduces no symbol
  pub record ReducesNone : Type 0 where
    pub place : ℕ
    pub reduction : List Token × ℕ
    pub at : slice_get s.reductions place ≡ Some reduction
    pub none : pops_nothing (slice_get (productions_of g) reduction.1) ≡ true

  pub why_goes_on : goes_on g ls s ≡ true → ShiftsToOne ⊎ ReducesNone
  unfolding goes_on
  why_goes_on e =
      ⊎_elim
      (λ (h : list_any (has_one_fixed ls) (values s.shifts) ≡ true).
      let w = any_place (has_one_fixed ls) (values s.shifts) h in
      let x = at_mapped (λ (y : ℕ × ℕ). y.1) (s.shifts).entries w.0 w.1 w.2 in
      inl (record { place = w.0; terminal = (x.0).0; target = (x.0).1; at = x.1; one = is_same (layout_at ls (x.0).1).fixed 1 (ap (has_one_fixed ls) (sym x.2) ∙ w.3) }))
      (λ (h : list_any (is_empty_reduction (productions_of g)) s.reductions ≡ true).
      let w = any_place (is_empty_reduction (productions_of g)) s.reductions h in
      inr (record { place = w.0; reduction = w.1; at = w.2; none = (and_parts (not (length (w.1).0 == 0)) (pops_nothing (slice_get (productions_of g) (w.1).1)) w.3).1 }))
      (or_cases (list_any (has_one_fixed ls) (values s.shifts)) (list_any (is_empty_reduction (productions_of g)) s.reductions) e)

module _ {g : Grammar} {start : ℕ} {states : List Lr1State} {t : Tables} (over : IsOver g start states t) where
  -- a state at the top of a path that goes on has a goto, but for state 0
  pub goes_on_has_goto : (stack : List ℕ) (xs : List SymbolNumber) (q : ℕ) (s : Lr1State) → IsPath states stack xs → last_of stack ≡ Some q → q ≢ 0 → slice_get states q ≡ Some s → goes_on g (layouts_of g states) s ≡ true → (n to : ℕ) × (edge_at states q (Nonterminal n) ≡ Some to)
  goes_on_has_goto stack xs q s path top other at e =
      ⊎_elim
      (λ (w : ShiftsToOne g (layouts_of g states) s). shift_has_goto over stack xs q (Terminal w.terminal) w.target path top other (shift_edge over q w.place w.terminal w.target s at w.at) w.one)
      (λ (w : ReducesNone g (layouts_of g states) s).
      let c = complete_at g start states over.tables q s w.place w.reduction at w.at in
      let p = produces g over.grammar (w.reduction).1 c.0 c.1 in
      let n : length (c.0).right ≡ 0 = ap length p.right ∙ length-map p.production.symbols (number_or_count g) ∙ popping (slice_get (productions_of g) (w.reduction).1) p.production p.at w.none in
      first_has_goto over stack xs q (w.reduction).1 path top other (subst (Has states q (w.reduction).1) n c.2))
      (why_goes_on g (layouts_of g states) s e)

-- ---- the arms of gotos
-- an entry's key is found
pub key_found : {X : Type 0} (es : List (ℕ × X)) (i n : ℕ) (x : X) → slice_get es i ≡ Some (n, x) → (y : X) × (lookup (eq_by_cmp nat_cmp n) es ≡ Some y)
key_found [] i n x e = absurd (none-some _ e)
key_found {X} (z ∷ es) zero n x e =
    (z.1, ap (λ (b : Bool). cond b (Some z.1) (lookup (eq_by_cmp nat_cmp n) es)) (ap (λ (w : ℕ × X). eq_by_cmp nat_cmp n w.0) (same_Some z (n, x) e) ∙ key_refl n))
  where
    key_refl : (k : ℕ) → eq_by_cmp nat_cmp k k ≡ true
    key_refl k = grind (arith, nat_tests)
key_found {X} (z ∷ es) (suc i) n x e =
    let w = key_found es i n x e in
    elim (eq_by_cmp nat_cmp n z.0) as (λ b. (y : X) × (cond b (Some z.1) (lookup (eq_by_cmp nat_cmp n) es) ≡ Some y)) [ true ↦ (z.1, refl) | false ↦ w ]

-- a goto whose nonterminal has a name, and those after it
named_first : (names : List (List ℕ)) (x : ℕ × ℕ) (gotos : List (ℕ × ℕ)) (name : List ℕ) → slice_get names x.0 ≡ Some name → named_gotos names (x ∷ gotos) ≡ (name, x.1) ∷ named_gotos names gotos
named_first names x gotos name h = flat_map-cons (named_goto names) x gotos ∙ ap (λ (o : Option (List ℕ)). goto_if x.1 o ++ named_gotos names gotos) h

-- where each has one, named gotos stand one by one at the places of the gotos
all_named : (names : List (List ℕ)) (gotos : List (ℕ × ℕ)) → ((i n to : ℕ) → slice_get gotos i ≡ Some (n, to) → (name : List ℕ) × (slice_get names n ≡ Some name)) → (i n to : ℕ) (name : List ℕ) → slice_get gotos i ≡ Some (n, to) → slice_get names n ≡ Some name → slice_get (named_gotos names gotos) i ≡ Some (name, to)
all_named names [] each i n to name e h = absurd (none-some _ e)
all_named names (x ∷ gotos) each zero n to name e h =
    let same = same_Some x (n, to) e in
    ap (λ (rows : List (List ℕ × ℕ)). slice_get rows 0) (named_first names x gotos name (ap (λ (y : ℕ × ℕ). slice_get names y.0) same ∙ h)) ∙ ap (λ (y : ℕ × ℕ). Some (name, y.1)) same
all_named names (x ∷ gotos) each (suc i) n to name e h =
    let first = each 0 x.0 x.1 refl in
    ap (λ (rows : List (List ℕ × ℕ)). slice_get rows (suc i)) (named_first names x gotos first.0 first.1) ∙ all_named names gotos (λ j m o a. each (suc j) m o a) i n to name e h

-- and there are as many
as_many_named : (names : List (List ℕ)) (gotos : List (ℕ × ℕ)) → ((i n to : ℕ) → slice_get gotos i ≡ Some (n, to) → (name : List ℕ) × (slice_get names n ≡ Some name)) → length (named_gotos names gotos) ≡ length gotos
as_many_named names [] each = refl
as_many_named names (x ∷ gotos) each =
    let first = each 0 x.0 x.1 refl in
    ap length (named_first names x gotos first.0 first.1) ∙ ap suc (as_many_named names gotos (λ j m o a. each (suc j) m o a))

module _ {g : Grammar} {start : ℕ} {states : List Lr1State} {t : Tables} (over : IsOver g start states t) (q : ℕ) (s : Lr1State) (at : slice_get states q ≡ Some s) where
  -- the nonterminal of each goto is in range
  pub goto_in_range : (i n to : ℕ) → slice_get (s.gotos).entries i ≡ Some (n, to) → n < length (nonterminals_of g)
  goto_in_range i n to e = let w = key_found (s.gotos).entries i n to e in (((over.tables).each q s at).gotos_in_range n w.0 w.1).0

  each_named : (i n to : ℕ) → slice_get (s.gotos).entries i ≡ Some (n, to) → (name : List ℕ) × (slice_get (answer_names g) n ≡ Some name)
  each_named i n to e =
      let w = at_within (nonterminals_of g) n (goto_in_range i n to e) in
      (answer_name w.0, mapped_at answer_name (nonterminals_of g) n w.0 w.1)

  -- the arms of a state's gotos are those of its gotos, in order, by their names
  pub goto_row : (i n to : ℕ) (name : NonterminalString) → slice_get (s.gotos).entries i ≡ Some (n, to) → slice_get (nonterminals_of g) n ≡ Some name → slice_get (named_gotos (answer_names g) (s.gotos).entries) i ≡ Some (answer_name name, to)
  goto_row i n to name e h = all_named (answer_names g) (s.gotos).entries each_named i n to (answer_name name) e (mapped_at answer_name (nonterminals_of g) n name h)

  pub goto_rows_count : length (named_gotos (answer_names g) (s.gotos).entries) ≡ length (s.gotos).entries
  goto_rows_count = as_many_named (answer_names g) (s.gotos).entries each_named

  -- each goto has its arm
  pub goto_named : (n to : ℕ) → edge_at states q (Nonterminal n) ≡ Some to → (name : NonterminalString) × (slice_get (nonterminals_of g) n ≡ Some name) × (i : ℕ) × (slice_get (named_gotos (answer_names g) (s.gotos).entries) i ≡ Some (answer_name name, to))
  goto_named n to edge =
      let e : get nat_cmp s.gotos n ≡ Some to = sym (ap (λ (o : Option Lr1State). edge_from o (Nonterminal n)) at) ∙ edge in
      let w = entry_place (eq_by_cmp nat_cmp n) (s.gotos).entries to e in
      let same : w.1 ≡ n = sym (same_key n w.1 w.3) in
      let place : slice_get (s.gotos).entries w.0 ≡ Some (n, to) = w.2 ∙ ap (λ (m : ℕ). Some (m, to)) same in
      let name = at_within (nonterminals_of g) n (goto_in_range w.0 n to place) in
      (name.0, name.1, w.0, goto_row w.0 n to name.0 place name.1)

-- ---- the goto that is taken
-- by numbers that tell nonterminals apart the first goto of a nonterminal is the one that is looked up
pub goto_by_variant : (variant : ℕ → ℕ) (gotos : List (ℕ × ℕ)) (n : ℕ) → ((i m to : ℕ) → slice_get gotos i ≡ Some (m, to) → variant n ≡ variant m → n ≡ m) → lookup (λ k. variant n == variant k) gotos ≡ lookup (eq_by_cmp nat_cmp n) gotos
goto_by_variant variant [] n apart = refl
goto_by_variant variant (x ∷ gotos) n apart =
    ap (λ (b : Bool). cond b (Some x.1) (lookup (λ k. variant n == variant k) gotos)) (tests n x.0 (variant n) (variant x.0) (λ e. apart 0 x.0 x.1 refl e) (λ e. ap variant e))
    ∙ ap (λ (o : Option ℕ). cond (eq_by_cmp nat_cmp n x.0) (Some x.1) o) (goto_by_variant variant gotos n (λ i m to e. apart (suc i) m to e))
  where
    tests : (n m a b : ℕ) → (a ≡ b → n ≡ m) → (n ≡ m → a ≡ b) → (a == b) ≡ eq_by_cmp nat_cmp n m
    tests n m a b f h = grind (arith, nat_tests)
