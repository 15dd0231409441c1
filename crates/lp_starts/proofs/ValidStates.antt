-- The canonical states of a start are valid tables.
use Rattle.std.proofs.Common.{◌≡◌, ◌↔◌, ℕ, zero, suc, ◌<◌, ◌≤◌, Bool, true, false, ◌&&◌, cond, List, [], ◌∷◌, ◌++◌, length, map, get_or, Option, Some, None, IsSome, IfSome, slice_get, refl, sym, ap, ◌∙◌, ⊎_elim, inl, inr, subst, arith, Contains, append-nil}
use Rattle.std.specs.BTreeMap.{IsOrdered, get, keys}
use Rattle.std.specs.List.{All, AllByRecursion, flat_map}
use Rattle.std.specs.Option.{is_none}
use Rattle.std.specs.Ordering.{nat_cmp}
use Rattle.std.proofs.lemmas.List.Concat.{flat_map-cons}
use Rattle.std.proofs.lemmas.Option.{slice_get_within, slice_get_cases, get_or_from_slice_get}
use Rattle.lp_repr.specs.Closure.{next_symbol, HasLeft, HasItem, Advanced}
use Rattle.lp_repr.specs.Numbering.{rules_of, nonterminals_of, terminals_of}
use Rattle.lp_repr.specs.ValidTables.{Begins, Follows, IsItemInRange, IsTokenInRange, IsTarget, acting_tokens, IsValidState, IsValidTables, start_number}
use Rattle.lp_repr.specs.declared.repr.Grammar.{Grammar}
use Rattle.lp_repr.specs.declared.numbering.Rule.{Rule}
use Rattle.lp_repr.specs.declared.numbering.SymbolNumber.{SymbolNumber}
use Rattle.lp_repr.specs.declared.numbering.SymbolNumber.TheVariants as symbol
use Rattle.lp_repr.specs.declared.lr1.Item.{Item}
use Rattle.lp_repr.specs.declared.lr1.Lr1State.{Lr1State}
use Rattle.lp_repr.specs.declared.lr1.Token.{Token}
use Rattle.lp_repr.specs.declared.lr1.Token.TheVariants.{Terminal, Eof}
use Rattle.lp_sets.specs.TokenSets.{IsBefore}
use Rattle.lp_states.specs.ItemSets.{IsBegun, Moved, IsCore, IsLookahead, Shifts, Reduces}
use Rattle.lp_states.specs.Paths.{IsEarlier, IsViable, LeadAlike}
use Rattle.lp_states.specs.Reductions.{reduction_of, reductions_of}
use Rattle.lp_states.specs.States.{IsItemBefore, ShowsItemsAfter, LeadsTo, IsStateAfter, AreStates}
use Rattle.lp_states.proofs.Closures.{InClosure-more, some_of, is_some_from}
use Rattle.lp_states.proofs.ItemsAfter.{one_dot}
use Rattle.lp_states.proofs.LeadingAlike.{alike_back, moved_item, viable_moved}
use Rattle.lp_states.proofs.PathOrder.{none_earlier}
use Rattle.lp_states.proofs.WalkLemmas.{contained_at}
use Rattle.lp_starts.proofs.Lists.{each_from, each_append, mapped_at, flat_source, flat_map-flat_map, ordered_at, StandOnce, AreApart, once_append, once_flat, once_mapped, once_ordered, once_keys, key_found}
use Rattle.lp_starts.proofs.Reached.{core_in_range, at_end, IsSymbolInRange, AreInRange, next_in_range, lookahead_in_range}

-- what holds of an element holds of the one at its place
pub at_some : {X : Type 0} (o : Option X) (P : X → Type 0) (x : X) → o ≡ Some x → P x → IfSome o P
at_some {X} o P x e p = subst (λ (q : Option X). IfSome q P) (sym e) p

-- ---- reductions, by the items that give them
abbrev Reduction : Type 0
Reduction = List Token × ℕ

one_if : (P : Reduction → Type 0) (o : Option SymbolNumber) (b : Bool) (r : Reduction) → (o ≡ None → P r) → AllByRecursion P (cond (is_none o && b) (r ∷ []) [])
one_if P None true r h = (h refl, tt)
one_if P None false r h = tt
one_if P (Some x) b r h = tt

each_reduction : (rules : List Rule) (P : Reduction → Type 0) (items : List Item) → ((i : ℕ) (item : Item) → slice_get items i ≡ Some item → next_symbol rules item.production item.index ≡ None → P (item.lookahead, item.production)) → AllByRecursion P (reductions_of rules items)
each_reduction rules P [] h = tt
each_reduction rules P (a ∷ items) h =
    subst (AllByRecursion P) (sym (flat_map-cons (reduction_of rules) a items)) (each_append P (reduction_of rules a) (reductions_of rules items) (one_if P (next_symbol rules a.production a.index) _ (a.lookahead, a.production) (h 0 a refl)) (each_reduction rules P items (λ i item e. h (suc i) item e)))

-- the tokens on which an item is reduced
abbrev reduced_tokens : List Rule → Item → List Token
reduced_tokens rules item = flat_map (λ (r : Reduction). r.0) (reduction_of rules item)

token_if : (o : Option SymbolNumber) (b : Bool) (r : Reduction) (k : ℕ) (t : Token) → slice_get (flat_map (λ (s : Reduction). s.0) (cond (is_none o && b) (r ∷ []) [])) k ≡ Some t → (o ≡ None) × (slice_get r.0 k ≡ Some t)
token_if None true r k t e =
    let f : flat_map (λ (s : Reduction). s.0) (r ∷ []) ≡ r.0 = flat_map-cons (λ (s : Reduction). s.0) r [] ∙ append-nil r.0 in
    (refl, subst (λ (ts : List Token). slice_get ts k ≡ Some t) f e)
token_if None false r k t e = cc
token_if (Some x) b r k t e = cc

token_source : (rules : List Rule) (item : Item) (k : ℕ) (t : Token) → slice_get (reduced_tokens rules item) k ≡ Some t → (next_symbol rules item.production item.index ≡ None) × (slice_get item.lookahead k ≡ Some t)
token_source rules item k t e =
    token_if (next_symbol rules item.production item.index) _ (item.lookahead, item.production) k t e

not_before_itself : (t : Token) → IsBefore t t → ⊥
not_before_itself (Terminal n) l = let m : n < n = l in omega arith
not_before_itself Eof l = l

module _ (rules : List Rule) (start : ℕ) (paths : List (List SymbolNumber)) (states : List Lr1State) (are : AreStates rules start paths states) where
  -- ---- states and paths
  path_at : (i : ℕ) (s : Lr1State) → slice_get states i ≡ Some s → (u : List SymbolNumber) × (slice_get paths i ≡ Some u) × IsStateAfter rules start paths u s
  path_at i s at =
      let l = slice_get_within states i s at in
      ⊎_elim (λ (w : (u : List SymbolNumber) × (i < length paths) × (slice_get paths i ≡ Some u) × (get_or paths i u ≡ u)). (w.0, w.2, are.each i w.0 s w.2 at)) (λ (w : (length paths ≤ i) × (slice_get paths i ≡ None)). absurd (omega (arith, l, w.0, are.same_count))) (slice_get_cases paths i).1

  state_at : (j : ℕ) (u : List SymbolNumber) → slice_get paths j ≡ Some u → (s : Lr1State) × (slice_get states j ≡ Some s) × IsStateAfter rules start paths u s
  state_at j u at =
      let l = slice_get_within paths j u at in
      ⊎_elim (λ (w : (s : Lr1State) × (j < length states) × (slice_get states j ≡ Some s) × (get_or states j s ≡ s)). (w.0, w.2, are.each j u w.0 at w.2)) (λ (w : (length states ≤ j) × (slice_get states j ≡ None)). absurd (omega (arith, l, w.0, are.same_count))) (slice_get_cases states j).1

  -- ---- the first state
  begun_first : (p d : ℕ) → IsBegun rules start p d → (d ≡ 0) × HasLeft rules p start
  begun_first p d b = (b.1, b.0)

  first_begun : (p d : ℕ) → (d ≡ 0) × HasLeft rules p start → IsBegun rules start p d
  first_begun p d b = (b.1, b.0)

  is_empty_path : (u : List SymbolNumber) → Contains paths u → LeadAlike rules start u [] → u ≡ []
  is_empty_path [] c alike = refl
  is_empty_path (x ∷ u) c alike = absurd ((are.first.first (x ∷ u) c).first [] tt (alike_back rules start (x ∷ u) [] alike))

  stands_first : (j : ℕ) → slice_get paths j ≡ Some [] → slice_get paths 0 ≡ Some []
  stands_first zero at = at
  stands_first (suc j) at =
      let l = slice_get_within paths (suc j) [] at in
      ⊎_elim (λ (w : (u : List SymbolNumber) × (0 < length paths) × (slice_get paths 0 ≡ Some u) × (get_or paths 0 u ≡ u)). absurd (none_earlier w.0 (ordered_at IsEarlier paths 0 (suc j) w.0 [] are.first.ordered (omega arith) w.2 at))) (λ (w : (length paths ≤ 0) × (slice_get paths 0 ≡ None)). absurd (omega (arith, l, w.0))) (slice_get_cases paths 0).1

  pub first_path : IsViable rules start [] → slice_get paths 0 ≡ Some []
  first_path ok =
      let j = are.all [] ok in
      let is = is_empty_path j.1.0 (contained_at paths j.0 j.1.0 j.1.1) j.1.2 in
      stands_first j.0 (j.1.1 ∙ ap Some is)

  pub some_state : IsViable rules start [] → 0 < length states
  some_state ok = let l = slice_get_within paths 0 [] (first_path ok) in omega (arith, l, are.same_count)

  begins_from : (s : Lr1State) → ShowsItemsAfter rules start [] s → Begins rules (Some start) s
  begins_from s shows p d = (
    λ c. InClosure-more begun_first ((shows.cores p d).0 c),
    λ c. (shows.cores p d).1 (InClosure-more first_begun c),
  )

  pub begins : IsViable rules start [] → IfSome (slice_get states 0) (Begins rules (Some start))
  begins ok =
      let w = state_at 0 [] (first_path ok) in
      at_some (slice_get states 0) (Begins rules (Some start)) w.0 w.1 (begins_from w.0 w.2.shows)

  -- ---- a state
  module _ (u : List SymbolNumber) (s : Lr1State) (is : IsStateAfter rules start paths u s) (stands : Contains paths u) where
    item_core : (i : ℕ) (item : Item) → slice_get s.items i ≡ Some item → IsCore rules start u item.production item.index
    item_core i item at = (is.shows.cores item.production item.index).0 (i, item, at, refl, refl)

    item_token : (i : ℕ) (item : Item) (k : ℕ) (t : Token) → slice_get s.items i ≡ Some item → slice_get item.lookahead k ≡ Some t → IsLookahead rules start u item.production item.index t
    item_token i item k t at on =
        (is.shows.lookaheads item t (contained_at s.items i item at)).0 (contained_at item.lookahead k t on)

    pub items_in_range : AllByRecursion (IsItemInRange rules) s.items
    items_in_range =
        each_from (IsItemInRange rules) s.items (λ i item at. core_in_range rules start u item.production item.index (item_core i item at))

    -- edges
    pub target_within : (x : SymbolNumber) (j : ℕ) → LeadsTo rules start paths (x ∷ u) j → j < length states
    target_within x j h = let l = slice_get_within paths j h.1.0 h.1.1 in omega (arith, l, are.same_count)

    advanced_from_moved : (x : SymbolNumber) (p d : ℕ) → Moved rules x (IsCore rules start u) p d → Advanced rules s.items x p d
    advanced_from_moved x p d m = (m.0, m.1, (is.shows.cores p m.0).1 m.2, m.3)

    moved_from_advanced : (x : SymbolNumber) (p d : ℕ) → Advanced rules s.items x p d → Moved rules x (IsCore rules start u) p d
    moved_from_advanced x p d m = (m.0, m.1, (is.shows.cores p m.0).0 m.2, m.3)

    pub is_target : (x : SymbolNumber) (j : ℕ) → LeadsTo rules start paths (x ∷ u) j → IsTarget rules states s x j
    is_target x j h =
        let w = state_at j h.1.0 h.1.1 in
        (w.0, w.1, λ p d. (λ c. InClosure-more (advanced_from_moved x) ((h.1.2.cores p d).0 ((w.2.shows.cores p d).0 c)), λ c. (w.2.shows.cores p d).1 ((h.1.2.cores p d).1 (InClosure-more (moved_from_advanced x) c))))

    pub leads_over : (x : SymbolNumber) → IsViable rules start (x ∷ u) → Follows rules s x
    leads_over x ok =
        let m = moved_item rules start x u ok in
        (m.0, m.1, (is.shows.cores m.0 m.1).1 m.2, m.3)

    pub stand : (x : SymbolNumber) (o : Option ℕ) → ((j : ℕ) → (o ≡ Some j) ↔ LeadsTo rules start paths (x ∷ u) j) → IsSome o ↔ Follows rules s x
    stand x o lead = (
      λ h. let v = some_of o h in leads_over x ((lead v.0).0 v.1).0,
      λ f.
          let ok = viable_moved rules start x u f.0 f.1 ((is.shows.cores f.0 f.1).0 f.2) f.3 in
          let j = are.all (x ∷ u) ok in
          is_some_from o j.0 ((lead j.0).1 (ok, j.1)),
    )

    -- reductions
    pub each_of : (P : Reduction → Type 0) → ((i : ℕ) (item : Item) → slice_get s.items i ≡ Some item → next_symbol rules item.production item.index ≡ None → P (item.lookahead, item.production)) → AllByRecursion P s.reductions
    each_of P h =
        subst (AllByRecursion P) (sym is.shows.reductions) (each_reduction rules P s.items h)

    pub reduces_complete : AllByRecursion (λ (r : Reduction). IfSome (slice_get rules r.1) (λ rule. HasItem s.items r.1 (length rule.right))) s.reductions
    reduces_complete =
        each_of (λ (r : Reduction). IfSome (slice_get rules r.1) (λ rule. HasItem s.items r.1 (length rule.right))) (λ i item at none. let w = at_end rules start u item.production item.index (item_core i item at) none in at_some (slice_get rules item.production) (λ rule. HasItem s.items item.production (length rule.right)) w.0 w.1 (i, item, at, refl, w.2))

    -- an item is reduced on its lookaheads, no two items on one, and on none that is shifted
    reduces_on : (i : ℕ) (item : Item) (k : ℕ) (t : Token) → slice_get s.items i ≡ Some item → slice_get (reduced_tokens rules item) k ≡ Some t → Reduces rules start u item.production t
    reduces_on i item k t at on =
        let w = token_source rules item k t on in
        (item.index, item_token i item k t at w.1, w.0)

    tokens_once : (i : ℕ) (item : Item) → slice_get s.items i ≡ Some item → StandOnce (reduced_tokens rules item)
    tokens_once i item at k l t e f =
        once_ordered IsBefore item.lookahead not_before_itself (is.shows.tokens_ordered item (contained_at s.items i item at)) k l t (token_source rules item k t e).1 (token_source rules item l t f).1

    other_dot : (i j : ℕ) (a b : Item) → slice_get s.items i ≡ Some a → slice_get s.items j ≡ Some b → a.production ≡ b.production → next_symbol rules a.production a.index ≡ None → next_symbol rules b.production b.index ≡ None → a.index ≡ b.index
    other_dot i j a b at bt same e f =
        one_dot rules start u a.production a.index b.index (item_core i a at) (subst (λ (p : ℕ). IsCore rules start u p b.index) (sym same) (item_core j b bt)) e (subst (λ (p : ℕ). next_symbol rules p b.index ≡ None) (sym same) f)

    items_apart : (i j : ℕ) (a b : Item) → i < j → slice_get s.items i ≡ Some a → slice_get s.items j ≡ Some b → AreApart (reduced_tokens rules a) (reduced_tokens rules b)
    items_apart i j a b l at bt k m t e f =
        ⊎_elim (λ (less : a.production < b.production). are.calm u stands t (inr (a.production, b.production, (λ same. omega arith), reduces_on i a k t at e, reduces_on j b m t bt f))) (λ (w : (a.production ≡ b.production) × (a.index < b.index)). let same = other_dot i j a b at bt w.0 (token_source rules a k t e).0 (token_source rules b m t f).0 in omega (arith, same, w.1)) (ordered_at IsItemBefore s.items i j a b is.shows.ordered l at bt)

    reduced : flat_map (λ (r : Reduction). r.0) s.reductions ≡ flat_map (reduced_tokens rules) s.items
    reduced =
        ap (flat_map (λ (r : Reduction). r.0)) is.shows.reductions ∙ flat_map-flat_map (λ (r : Reduction). r.0) (reduction_of rules) s.items

    reduced_once : StandOnce (flat_map (reduced_tokens rules) s.items)
    reduced_once = once_flat (reduced_tokens rules) s.items tokens_once items_apart

    module _ (ordered : IsOrdered nat_cmp s.shifts) where
      shifts_once : StandOnce (map Terminal (keys s.shifts))
      shifts_once = once_mapped Terminal (λ m n e. cc) (keys s.shifts) (once_keys s.shifts ordered)

      shifts_apart : AreApart (map Terminal (keys s.shifts)) (flat_map (reduced_tokens rules) s.items)
      shifts_apart i j t e f =
          let k = mapped_at Terminal (keys s.shifts) i t e in
          let v = key_found s.shifts ordered i k.0 k.1 in
          let lead : LeadsTo rules start paths (symbol.Terminal k.0 ∷ u) v.0 = (is.shifts k.0 v.0).0 v.1 in
          let shifts : Shifts rules start u k.0 = moved_item rules start (symbol.Terminal k.0) u lead.0 in
          let r = flat_source (reduced_tokens rules) s.items j t f in
          are.calm u stands t (inl (k.0, r.1.production, sym k.2, shifts, reduces_on r.0 r.1 r.2 t r.3 r.4))

      pub acts_once : StandOnce (acting_tokens s)
      acts_once =
          subst (λ (ts : List Token). StandOnce (map Terminal (keys s.shifts) ++ ts)) (sym reduced) (once_append (map Terminal (keys s.shifts)) (flat_map (reduced_tokens rules) s.items) shifts_once reduced_once shifts_apart)

-- ---- the tables
module _ (g : Grammar) (start n : ℕ) (paths : List (List SymbolNumber)) (states : List Lr1State) (known : AreInRange (length (terminals_of g)) (length (nonterminals_of g)) (rules_of g)) (are : AreStates (rules_of g) n paths states) where
  module _ (u : List SymbolNumber) (s : Lr1State) (is : IsStateAfter (rules_of g) n paths u s) (stands : Contains paths u) where
    edge_in_range : (x : SymbolNumber) (j : ℕ) → LeadsTo (rules_of g) n paths (x ∷ u) j → IsSymbolInRange (length (terminals_of g)) (length (nonterminals_of g)) x × (j < length states)
    edge_in_range x j h =
        let f = leads_over (rules_of g) n paths states are u s is stands x h.0 in
        (next_in_range (rules_of g) (length (terminals_of g)) (length (nonterminals_of g)) known f.0 f.1 x f.3, target_within (rules_of g) n paths states are u s is stands x j h)

    reductions_in_range : AllByRecursion (λ (r : Reduction). (r.1 < length (rules_of g)) × AllByRecursion (IsTokenInRange (length (terminals_of g))) r.0) s.reductions
    reductions_in_range =
        each_of (rules_of g) n paths states are u s is stands (λ (r : Reduction). (r.1 < length (rules_of g)) × AllByRecursion (IsTokenInRange (length (terminals_of g))) r.0) (λ i item at none. let w = core_in_range (rules_of g) n u item.production item.index (item_core (rules_of g) n paths states are u s is stands i item at) in (slice_get_within (rules_of g) item.production w.0 w.1, each_from (IsTokenInRange (length (terminals_of g))) item.lookahead (λ k t on. lookahead_in_range (rules_of g) (length (terminals_of g)) (length (nonterminals_of g)) known n u item.production item.index t (item_token (rules_of g) n paths states are u s is stands i item k t at on))))

    is_valid_state : IsOrdered nat_cmp s.shifts → IsValidState g states s
    is_valid_state ordered = record {
      items_in_range = items_in_range (rules_of g) n paths states are u s is stands;
      shifts_in_range = λ k j e. edge_in_range (symbol.Terminal k) j ((is.shifts k j).0 e);
      gotos_in_range = λ k j e. edge_in_range (symbol.Nonterminal k) j ((is.gotos k j).0 e);
      reductions_in_range = reductions_in_range;
      shift_targets = λ k j e. is_target (rules_of g) n paths states are u s is stands (symbol.Terminal k) j ((is.shifts k j).0 e);
      goto_targets = λ k j e. is_target (rules_of g) n paths states are u s is stands (symbol.Nonterminal k) j ((is.gotos k j).0 e);
      shifts_stand = λ k. stand (rules_of g) n paths states are u s is stands (symbol.Terminal k) (get nat_cmp s.shifts k) (is.shifts k);
      gotos_stand = λ k. stand (rules_of g) n paths states are u s is stands (symbol.Nonterminal k) (get nat_cmp s.gotos k) (is.gotos k);
      reduces_complete = reduces_complete (rules_of g) n paths states are u s is stands;
      acts_once = acts_once (rules_of g) n paths states are u s is stands ordered;
    }

  ordered_shifts : (i : ℕ) (s : Lr1State) → All (λ (r : Lr1State). IsOrdered nat_cmp r.shifts) states → slice_get states i ≡ Some s → IsOrdered nat_cmp s.shifts
  ordered_shifts i s ordered at =
      subst (λ (r : Lr1State). IsOrdered nat_cmp r.shifts) (get_or_from_slice_get states i s s at) (ordered i s (slice_get_within states i s at))

  pub are_valid_tables : start_number g start ≡ Some n → IsViable (rules_of g) n [] → All (λ (s : Lr1State). IsOrdered nat_cmp s.shifts) states → IsValidTables g start states
  are_valid_tables begun ok ordered = record {
    some_state = some_state (rules_of g) n paths states are ok;
    begins = subst (λ (o : Option ℕ). IfSome (slice_get states 0) (Begins (rules_of g) o)) (sym begun) (begins (rules_of g) n paths states are ok);
    each = λ i s at. let w = path_at (rules_of g) n paths states are i s at in is_valid_state w.0 s w.2 (contained_at paths i w.0 w.1) (ordered_shifts i s ordered at);
  }
