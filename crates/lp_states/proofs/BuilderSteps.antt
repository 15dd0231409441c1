-- The steps of the builder.
use Rattle.std.proofs.Common.{◌≡◌, ℕ, zero, suc, ◌+◌, ◌⊎◌, Bool, true, false, cond, List, [], ◌∷◌, ◌++◌, map, length, Some, None, slice_get, refl, sym, ap, ◌∙◌, ⊎_elim, inl, inr, subst, length-append, arith, Contains}
use Rattle.std.specs.BTreeMap as tree
use Rattle.std.specs.BTreeMap.{BTreeMap}
use Rattle.std.specs.Ordering.{eq_by_cmp}
use Rattle.std.specs.Option.{option_and_then}
use Rattle.std.proofs.lemmas.Option.{same_Some, none-some, slice_get_within, get_or_from_slice_get}
use Rattle.std.proofs.lemmas.List.Elements.{Contains-append_cases, Contains-push_cases}
use Rattle.lp_repr.specs.declared.numbering.Rule.{Rule}
use Rattle.lp_repr.specs.declared.numbering.SymbolNumber.{SymbolNumber}
use Rattle.lp_repr.specs.declared.numbering.SymbolNumber.TheVariants as by_number
use Rattle.lp_repr.specs.declared.lr1.Lr1State.{Lr1State}
use Rattle.lp_states.specs.declared.builder.Builder.{Builder}
use Rattle.lp_states.specs.declared.builder.Edge.{Edge}
use Rattle.lp_states.specs.declared.builder.Origin.{Origin}
use Rattle.lp_states.specs.declared.builder.Origin.TheVariants.{Start, After}
use Rattle.lp_states.specs.declared.builder.Stop.{Stop}
use Rattle.lp_states.specs.declared.builder.Stop.TheVariants.{Conflict, TooMany, Memory}
use Rattle.lp_states.specs.ItemMaps.{ItemMap, IsPut, IsKernelAfter, IsStartKernel, AreItemsAfter}
use Rattle.lp_states.specs.Paths.{IsViable, LeadAlike, AreFirstPaths}
use Rattle.lp_states.specs.Walks.{IsNoted}
use Rattle.lp_states.specs.States.{ShowsItemsAfter, AreStates, LeadsTo, IsCalm}
use Rattle.lp_states.specs.Building.{path_after, paths_from, paths_of, target_at, targets_of, edge_of, edges_of, edge_from, kernel_cmp, NumbersNew, StopsAt, IsNotedIn, IsBuilt, IsStopped}
use Rattle.lp_states.proofs.LeadingAlike.{alike_back, alike_both, begun_apart}
use Rattle.lp_states.proofs.WalkLemmas.{numbered_are_first, all_covered}
use Rattle.lp_states.proofs.WalkSteps.{push_old, push_new, push_cases, in_cases, walk_found, walk_new, walk_start, next_are_first, start_is_first, viable_next}
use Rattle.lp_states.proofs.ItemsAfter.{start_items, next_items, kernel_alike, same_kernel}
use Rattle.lp_states.proofs.Entries.{conflict_from_twice, twice_from_conflict, shows_items}
use Rattle.lp_states.proofs.EdgeLemmas.{edges_entry, entry_edge, edges_ordered, moved_viable, viable_found, kernel_of_edge}
use Rattle.lp_states.proofs.KernelOrder.{kernel_exact, kernel_itself, found_alike, kernel_after_alike}

-- ---- paths of origins
pub paths_push : (before : List (List SymbolNumber)) (os : List Origin) (o : Origin) → paths_from before (os ++ o ∷ []) ≡ paths_from before os ++ path_after (paths_from before os) o ∷ []
paths_push before [] o = refl
paths_push before (p ∷ os) o = paths_push (before ++ path_after before p ∷ []) os o

pub length_paths : (before : List (List SymbolNumber)) (os : List Origin) → length (paths_from before os) ≡ length before + length os
length_paths before [] = omega arith
length_paths before (o ∷ os) =
    length_paths (before ++ path_after before o ∷ []) os ∙ omega (arith, length-append before (path_after before o ∷ []))

-- ---- edges of lists
pub edges_append : (es fs : List Edge) → edges_of (es ++ fs) ≡ edges_of es ++ edges_of fs
edges_append [] fs = refl
edges_append (e ∷ es) fs = ap (λ (xs : List (ℕ × SymbolNumber)). edge_of e ∷ xs) (edges_append es fs)

-- ---- states
shows_same : (rules : List Rule) (start : ℕ) (u : List SymbolNumber) (r s : Lr1State) → s.items ≡ r.items → s.reductions ≡ r.reductions → ShowsItemsAfter rules start u r → ShowsItemsAfter rules start u s
shows_same rules start u r s e f h = record {
  ordered = rw e h.ordered;
  cores = rw e h.cores;
  tokens_ordered = rw e h.tokens_ordered;
  lookaheads = rw e h.lookaheads;
  reductions = f ∙ h.reductions ∙ rw e refl;
}

-- a state with no targets more changes no targets
targets_push : (states : List Lr1State) (s : Lr1State) → ((x : SymbolNumber) → target_at s x ≡ None) → (k : ℕ) (y : SymbolNumber) → targets_of (states ++ s ∷ []) k y ≡ targets_of states k y
targets_push [] s none zero y = none y
targets_push [] s none (suc k) y = refl
targets_push (r ∷ states) s none zero y = refl
targets_push (r ∷ states) s none (suc k) y = targets_push states s none k y

-- ---- numbers
put_same : (old new : BTreeMap ItemMap ℕ) (k : ItemMap) (n : ℕ) → IsPut kernel_cmp old new k n → tree.get kernel_cmp new k ≡ Some n
put_same old new k n h = h k ∙ ap (λ (b : Bool). cond b (Some n) (tree.get kernel_cmp old k)) (kernel_itself k)

put_cases : (old : BTreeMap ItemMap ℕ) (k l : ItemMap) (n j : ℕ) (b : Bool) → eq_by_cmp kernel_cmp k l ≡ b → cond b (Some n) (tree.get kernel_cmp old l) ≡ Some j → ((n ≡ j) × (k.entries ≡ l.entries)) ⊎ (tree.get kernel_cmp old l ≡ Some j)
put_cases old k l n j true e h = inl (same_Some n j h, kernel_exact k l e)
put_cases old k l n j false e h = inr h

put_other : (old : BTreeMap ItemMap ℕ) (k l : ItemMap) (n j : ℕ) (b : Bool) → eq_by_cmp kernel_cmp k l ≡ b → tree.get kernel_cmp old k ≡ None → tree.get kernel_cmp old l ≡ Some j → cond b (Some n) (tree.get kernel_cmp old l) ≡ Some j
put_other old k l n j true e none h =
    absurd (none-some j (sym none ∙ found_alike old k l (kernel_exact k l e) ∙ h))
put_other old k l n j false e none h = h

-- ---- a kernel of the path with one symbol more
module _ (rules : List Rule) (start : ℕ) (old : Builder) (from : ℕ) (over : SymbolNumber) (built : IsBuilt rules start ((from, over) ∷ []) old) (u : List SymbolNumber) (at : slice_get (paths_of old.origins.items) from ≡ Some u) (kernel : ItemMap) (after : IsKernelAfter rules start over u kernel) where
  -- the paths with the next one
  next_paths : paths_of (old.origins.items ++ After from over ∷ []) ≡ paths_of old.origins.items ++ (over ∷ u) ∷ []
  next_paths =
      paths_push [] old.origins.items (After from over) ∙ ap (λ (v : List SymbolNumber). paths_of old.origins.items ++ (over ∷ v) ∷ []) (get_or_from_slice_get (paths_of old.origins.items) from u [] at)

  count_paths : length (paths_of old.origins.items) ≡ length old.states.items
  count_paths = omega (arith, length_paths [] old.origins.items, built.count)

  -- ---- it was numbered
  pub step_found : (j : ℕ) → tree.get kernel_cmp old.numbers kernel ≡ Some j → (new : Builder) → IsNotedIn old.states.items new.states.items from over j → new.origins ≡ old.origins → new.numbers ≡ old.numbers → new.edges ≡ old.edges → IsBuilt rules start [] new
  step_found j found new noted o n e =
      let w = built.numbered kernel j found in
      let alike = kernel_alike rules start w.0 over w.1 u kernel w.3 after in
      record {
        walk = rw (o, e) (walk_found rules start (paths_of old.origins.items) (targets_of old.states.items) from over (edges_of old.edges.items) built.walk u at (targets_of new.states.items) j noted.noted (w.0 ∷ w.1) w.2 alike);
        count = noted.count ∙ built.count ∙ rw o refl;
        few = rw noted.count built.few;
        shown = rw o (λ i v s g h. let r = noted.shown i s h in shows_same rules start v r.0 s r.2 r.3 (built.shown i v r.0 g r.1));
        calm = rw o built.calm;
        kernels = rw (o, n) built.kernels;
        numbered = rw (o, n) built.numbered;
        edge_kernels = rw (o, e) built.edge_kernels;
      }

  -- ---- it was not
  module _ (none : tree.get kernel_cmp old.numbers kernel ≡ None) where
    absent_kernel : (j : ℕ) (w : List SymbolNumber) → slice_get (paths_of old.origins.items) j ≡ Some w → LeadAlike rules start w (over ∷ u) → ⊥
    absent_kernel j [] g alike =
        begun_apart rules start over u (viable_next rules start (paths_of old.origins.items) (targets_of old.states.items) from over (edges_of old.edges.items) built.walk u at) alike
    absent_kernel j (y ∷ v) g alike =
        let k = built.kernels j y v g in
        let same = same_kernel rules start over y u v kernel k.0 after k.1 (alike_back rules start (y ∷ v) (over ∷ u) alike) alike in
        none-some j (sym none ∙ found_alike old.numbers kernel k.0 same ∙ k.2)

    first_paths : AreFirstPaths rules start (paths_of old.origins.items ++ (over ∷ u) ∷ [])
    first_paths =
        next_are_first rules start (paths_of old.origins.items) (targets_of old.states.items) from over (edges_of old.edges.items) built.walk u at absent_kernel

    -- the walk stops at it
    pub step_stops : (new : Builder) (stop : Stop) → StopsAt rules old new kernel (After from over) stop → IsStopped rules start new stop
    step_stops new (Conflict t) h =
        let k = h.2 in
        let are = next_items rules start over u kernel k.items after k.closure in
        (paths_of old.origins.items, over ∷ u, ap paths_of h.0 ∙ next_paths, record { first = first_paths; few = omega (arith, count_paths, h.1); calm = built.calm; conflict = conflict_from_twice rules start (over ∷ u) k.items k.closure.ordered are t k.twice; least = λ s l c. k.least s l (twice_from_conflict rules start (over ∷ u) k.items k.closure.ordered are s c) })
    step_stops new TooMany h =
        (paths_of old.origins.items, over ∷ u, ap paths_of h.0 ∙ next_paths, record { first = first_paths; many = omega (arith, count_paths, h.1, built.few); calm = built.calm })
    step_stops new Memory h = tt

    -- it is numbered
    module _ (mid new : Builder) (more : NumbersNew rules old mid kernel (After from over)) (noted : IsNotedIn mid.states.items new.states.items from over (length old.states.items)) (put : IsPut kernel_cmp old.numbers new.numbers kernel (length old.states.items)) (origins : new.origins.items ≡ mid.origins.items) (edges : new.edges.items ≡ mid.edges.items) where
      new_paths : paths_of new.origins.items ≡ paths_of old.origins.items ++ (over ∷ u) ∷ []
      new_paths = ap paths_of (origins ∙ more.origins_are) ∙ next_paths

      items_after : AreItemsAfter rules start (over ∷ u) more.is_new.items
      items_after = next_items rules start over u kernel more.is_new.items after more.is_new.closure

      lead_on : (e : ℕ × SymbolNumber) → Contains (edges_of (map (edge_from (length old.states.items)) more.is_new.moved.entries)) e → (e.0 ≡ length (paths_of old.origins.items)) × IsViable rules start (e.1 ∷ over ∷ u)
      lead_on e c =
          let w = edges_entry (length old.states.items) more.is_new.moved.entries e c in
          subst (λ (f : ℕ × SymbolNumber). (f.0 ≡ length (paths_of old.origins.items)) × IsViable rules start (f.1 ∷ over ∷ u)) (sym w.2) (sym count_paths, moved_viable rules start (over ∷ u) more.is_new.items items_after more.is_new.moved more.is_new.are_moved w.0 w.1)

      all_lead : (y : SymbolNumber) → IsViable rules start (y ∷ over ∷ u) → Contains (edges_of (map (edge_from (length old.states.items)) more.is_new.moved.entries)) (length (paths_of old.origins.items), y)
      all_lead y v =
          let w = viable_found rules start (over ∷ u) more.is_new.items items_after more.is_new.moved more.is_new.are_moved y v in
          rw count_paths (entry_edge (length old.states.items) more.is_new.moved.entries (y, w.0) w.1)

      noted_new : IsNoted (targets_of old.states.items) (targets_of new.states.items) from over (length (paths_of old.origins.items))
      noted_new =
          (rw count_paths noted.noted.0, λ k y. ⊎_elim (λ s. inl s) (λ (e : targets_of new.states.items k y ≡ targets_of mid.states.items k y). inr (e ∙ ap (λ (ss : List Lr1State). targets_of ss k y) more.states_are ∙ targets_push old.states.items more.state more.is_new.no_targets k y)) (noted.noted.1 k y))

      edges_new : edges_of new.edges.items ≡ edges_of old.edges.items ++ edges_of (map (edge_from (length old.states.items)) more.is_new.moved.entries)
      edges_new =
          ap edges_of (edges ∙ more.edges_are) ∙ edges_append old.edges.items more.edges ∙ ap (λ (es : List Edge). edges_of old.edges.items ++ edges_of es) more.is_new.edges_are

      states_count : length new.states.items ≡ length old.states.items + 1
      states_count = noted.count ∙ ap length more.states_are ∙ length-append old.states.items (more.state ∷ [])

      shown_here : (v : List SymbolNumber) (r : Lr1State) → v ≡ over ∷ u → r ≡ more.state → ShowsItemsAfter rules start v r
      shown_here v r e f =
          subst (λ w. ShowsItemsAfter rules start w r) (sym e) (subst (λ (s : Lr1State). ShowsItemsAfter rules start (over ∷ u) s) (sym f) (shows_items rules start (over ∷ u) more.is_new.items more.is_new.closure.ordered items_after more.state more.is_new.shows more.is_new.reductions))

      shown_new : (i : ℕ) (v : List SymbolNumber) (s : Lr1State) → slice_get (paths_of old.origins.items ++ (over ∷ u) ∷ []) i ≡ Some v → slice_get new.states.items i ≡ Some s → ShowsItemsAfter rules start v s
      shown_new i v s g h =
          let r = noted.shown i s h in
          let f : slice_get (old.states.items ++ more.state ∷ []) i ≡ Some r.0 = ap (λ (ss : List Lr1State). slice_get ss i) (sym more.states_are) ∙ r.1 in
          shows_same rules start v r.0 s r.2 r.3 (⊎_elim (λ (o : slice_get (paths_of old.origins.items) i ≡ Some v). ⊎_elim (λ (p : slice_get old.states.items i ≡ Some r.0). built.shown i v r.0 o p) (λ p. absurd (omega (arith, p.0, slice_get_within (paths_of old.origins.items) i v o, count_paths))) (push_cases old.states.items more.state i r.0 f)) (λ o. ⊎_elim (λ (p : slice_get old.states.items i ≡ Some r.0). absurd (omega (arith, o.0, slice_get_within old.states.items i r.0 p, count_paths))) (λ p. shown_here v r.0 o.1 p.1) (push_cases old.states.items more.state i r.0 f)) (push_cases (paths_of old.origins.items) (over ∷ u) i v g))

      calm_new : (v : List SymbolNumber) → Contains (paths_of old.origins.items ++ (over ∷ u) ∷ []) v → IsCalm rules start v
      calm_new v c =
          ⊎_elim (λ (o : Contains (paths_of old.origins.items) v). built.calm v o) (λ (e : over ∷ u ≡ v). subst (λ w. IsCalm rules start w) e (λ t h. more.is_new.calm t (twice_from_conflict rules start (over ∷ u) more.is_new.items more.is_new.closure.ordered items_after t h))) (Contains-push_cases (paths_of old.origins.items) (over ∷ u) v c)

      kernel_here : (y : SymbolNumber) (v : List SymbolNumber) → y ∷ v ≡ over ∷ u → IsKernelAfter rules start y v kernel
      kernel_here y v e =
          let f : y ≡ over = cc in
          let g : v ≡ u = cc in
          subst (λ z. IsKernelAfter rules start z v kernel) (sym f) (subst (λ w. IsKernelAfter rules start over w kernel) (sym g) after)

      kernels_new : (j : ℕ) (y : SymbolNumber) (v : List SymbolNumber) → slice_get (paths_of old.origins.items ++ (over ∷ u) ∷ []) j ≡ Some (y ∷ v) → (k : ItemMap) × IsKernelAfter rules start y v k × (tree.get kernel_cmp new.numbers k ≡ Some j)
      kernels_new j y v g =
          ⊎_elim (λ (o : slice_get (paths_of old.origins.items) j ≡ Some (y ∷ v)). let k = built.kernels j y v o in (k.0, k.1, put k.0 ∙ put_other old.numbers kernel k.0 (length old.states.items) j (eq_by_cmp kernel_cmp kernel k.0) refl none k.2)) (λ o. (kernel, kernel_here y v o.1, put_same old.numbers new.numbers kernel (length old.states.items) put ∙ ap Some (sym count_paths ∙ sym o.0))) (push_cases (paths_of old.origins.items) (over ∷ u) j (y ∷ v) g)

      numbered_new : (k : ItemMap) (j : ℕ) → tree.get kernel_cmp new.numbers k ≡ Some j → (y : SymbolNumber) × (v : List SymbolNumber) × (slice_get (paths_of old.origins.items ++ (over ∷ u) ∷ []) j ≡ Some (y ∷ v)) × IsKernelAfter rules start y v k
      numbered_new k j h =
          ⊎_elim (λ s. (over, u, ap (slice_get (paths_of old.origins.items ++ (over ∷ u) ∷ [])) (sym s.0 ∙ sym count_paths) ∙ push_new (paths_of old.origins.items) (over ∷ u), kernel_after_alike rules start over u kernel k s.1 after)) (λ (o : tree.get kernel_cmp old.numbers k ≡ Some j). let w = built.numbered k j o in (w.0, w.1, push_old (paths_of old.origins.items) (over ∷ u) j (w.0 ∷ w.1) w.2, w.3)) (put_cases old.numbers kernel k (length old.states.items) j (eq_by_cmp kernel_cmp kernel k) refl (sym (put k) ∙ h))

      edge_kernels_new : (e : Edge) → Contains new.edges.items e → (v : List SymbolNumber) × (slice_get (paths_of old.origins.items ++ (over ∷ u) ∷ []) e.from ≡ Some v) × IsKernelAfter rules start e.over v e.kernel
      edge_kernels_new e c =
          ⊎_elim (λ (o : Contains old.edges.items e). let w = built.edge_kernels e o in (w.0, push_old (paths_of old.origins.items) (over ∷ u) e.from w.0 w.1, w.2)) (λ (d : Contains more.edges e). let w = kernel_of_edge rules start (over ∷ u) more.is_new.items items_after more.is_new.moved more.is_new.are_moved (length old.states.items) e (subst (λ (es : List Edge). Contains es e) more.is_new.edges_are d) in (over ∷ u, ap (slice_get (paths_of old.origins.items ++ (over ∷ u) ∷ [])) (w.0 ∙ sym count_paths) ∙ push_new (paths_of old.origins.items) (over ∷ u), w.1)) (Contains-append_cases old.edges.items more.edges e (subst (λ (es : List Edge). Contains es e) (edges ∙ more.edges_are) c))

      pub step_new : IsBuilt rules start [] new
      step_new = record {
        walk = rw (new_paths, edges_new) (walk_new rules start (paths_of old.origins.items) (targets_of old.states.items) from over (edges_of old.edges.items) built.walk u at absent_kernel (targets_of new.states.items) noted_new (edges_of (map (edge_from (length old.states.items)) more.is_new.moved.entries)) lead_on all_lead (edges_ordered (length old.states.items) more.is_new.moved.entries more.is_new.are_moved.ordered));
        count = states_count ∙ ap (λ (n : ℕ). n + 1) built.count ∙ sym (ap length (origins ∙ more.origins_are) ∙ length-append old.origins.items (After from over ∷ []));
        few = omega (arith, states_count, more.room);
        shown = rw new_paths shown_new;
        calm = rw new_paths calm_new;
        kernels = rw new_paths kernels_new;
        numbered = rw new_paths numbered_new;
        edge_kernels = rw new_paths edge_kernels_new;
      }

-- ---- the beginning
module _ (rules : List Rule) (start : ℕ) (old new : Builder) (kernel : ItemMap) (begun : IsStartKernel rules start kernel) (some : IsViable rules start []) (no_origins : old.origins.items ≡ []) (no_states : old.states.items ≡ []) (no_edges : old.edges.items ≡ []) (no_numbers : (k : ItemMap) → tree.get kernel_cmp old.numbers k ≡ None) where
  pub start_stops : (stop : Stop) → StopsAt rules old new kernel Start stop → IsStopped rules start new stop
  start_stops (Conflict t) h =
      let k = h.2 in
      let are = start_items rules start kernel k.items begun k.closure in
      ([], [], ap paths_of (h.0 ∙ ap (λ (os : List Origin). os ++ Start ∷ []) no_origins), record { first = start_is_first rules start some; few = omega arith; calm = λ u c. absurd (omega (arith, c.1)); conflict = conflict_from_twice rules start [] k.items k.closure.ordered are t k.twice; least = λ s l c. k.least s l (twice_from_conflict rules start [] k.items k.closure.ordered are s c) })
  start_stops TooMany h = let e : length old.states.items ≡ 0 = ap length no_states in absurd (omega (arith, h.1))
  start_stops Memory h = tt

  module _ (more : NumbersNew rules old new kernel Start) where
    start_paths : paths_of new.origins.items ≡ [] ∷ []
    start_paths = ap paths_of (more.origins_are ∙ ap (λ (os : List Origin). os ++ Start ∷ []) no_origins)

    start_states : new.states.items ≡ more.state ∷ []
    start_states = more.states_are ∙ ap (λ (ss : List Lr1State). ss ++ more.state ∷ []) no_states

    none_old : length old.states.items ≡ 0
    none_old = ap length no_states

    start_edges : new.edges.items ≡ map (edge_from 0) more.is_new.moved.entries
    start_edges = more.edges_are ∙ ap (λ (es : List Edge). es ++ more.edges) no_edges ∙ more.is_new.edges_are ∙ ap (λ (n : ℕ). map (edge_from n) more.is_new.moved.entries) none_old

    begun_items : AreItemsAfter rules start [] more.is_new.items
    begun_items = start_items rules start kernel more.is_new.items begun more.is_new.closure

    no_targets_of : (i : ℕ) (x : SymbolNumber) → targets_of [] i x ≡ None
    no_targets_of i x = refl

    no_targets : (i : ℕ) (x : SymbolNumber) → targets_of new.states.items i x ≡ None
    no_targets i x = ap (λ (ss : List Lr1State). targets_of ss i x) start_states ∙ targets_push [] more.state more.is_new.no_targets i x ∙ no_targets_of i x

    begun_lead : (e : ℕ × SymbolNumber) → Contains (edges_of (map (edge_from 0) more.is_new.moved.entries)) e → (e.0 ≡ 0) × IsViable rules start (e.1 ∷ [])
    begun_lead e c =
        let w = edges_entry 0 more.is_new.moved.entries e c in
        subst (λ (f : ℕ × SymbolNumber). (f.0 ≡ 0) × IsViable rules start (f.1 ∷ [])) (sym w.2) (refl, moved_viable rules start [] more.is_new.items begun_items more.is_new.moved more.is_new.are_moved w.0 w.1)

    begun_all : (y : SymbolNumber) → IsViable rules start (y ∷ []) → Contains (edges_of (map (edge_from 0) more.is_new.moved.entries)) (0, y)
    begun_all y v =
        let w = viable_found rules start [] more.is_new.items begun_items more.is_new.moved more.is_new.are_moved y v in
        entry_edge 0 more.is_new.moved.entries (y, w.0) w.1

    start_shown : (i : ℕ) (u : List SymbolNumber) (s : Lr1State) → slice_get ([] ∷ []) i ≡ Some u → slice_get (more.state ∷ []) i ≡ Some s → ShowsItemsAfter rules start u s
    start_shown zero u s g h =
        subst (λ v. ShowsItemsAfter rules start v s) (same_Some [] u g) (subst (λ (r : Lr1State). ShowsItemsAfter rules start [] r) (same_Some more.state s h) (shows_items rules start [] more.is_new.items more.is_new.closure.ordered begun_items more.state more.is_new.shows more.is_new.reductions))
    start_shown (suc i) u s g h = cc

    start_calm : (u : List SymbolNumber) → Contains ([] ∷ []) u → IsCalm rules start u
    start_calm u c =
        ⊎_elim (λ (e : [] ≡ u). subst (λ v. IsCalm rules start v) e (λ t h. more.is_new.calm t (twice_from_conflict rules start [] more.is_new.items more.is_new.closure.ordered begun_items t h))) (λ (d : Contains [] u). absurd (omega (arith, d.1))) (in_cases [] [] u c)

    no_kernels : (j : ℕ) (x : SymbolNumber) (u : List SymbolNumber) → slice_get ([] ∷ []) j ≡ Some (x ∷ u) → ⊥
    no_kernels zero x u g = cc
    no_kernels (suc j) x u g = cc

    begun_kernels : (e : Edge) → Contains (map (edge_from 0) more.is_new.moved.entries) e → (u : List SymbolNumber) × (slice_get ([] ∷ []) e.from ≡ Some u) × IsKernelAfter rules start e.over u e.kernel
    begun_kernels e c =
        let w = kernel_of_edge rules start [] more.is_new.items begun_items more.is_new.moved more.is_new.are_moved 0 e c in
        ([], ap (slice_get ([] ∷ [])) w.0, w.1)

    pub step_start : IsBuilt rules start [] new
    step_start = record {
      walk = rw (start_paths, start_edges) (walk_start rules start some (targets_of new.states.items) (edges_of (map (edge_from 0) more.is_new.moved.entries)) no_targets begun_lead begun_all (edges_ordered 0 more.is_new.moved.entries more.is_new.are_moved.ordered));
      count = ap length start_states ∙ sym (ap length (more.origins_are ∙ ap (λ (os : List Origin). os ++ Start ∷ []) no_origins));
      few = rw start_states (omega arith);
      shown = rw (start_paths, start_states) start_shown;
      calm = rw start_paths start_calm;
      kernels = rw start_paths (λ j x u g. absurd (no_kernels j x u g));
      numbered = λ k j h. absurd (none-some j (sym (ap (λ (m : BTreeMap ItemMap ℕ). tree.get kernel_cmp m k) more.numbers_same ∙ no_numbers k) ∙ h));
      edge_kernels = rw (start_paths, start_edges) begun_kernels;
    }

-- ---- the end
module _ (rules : List Rule) (start : ℕ) (b : Builder) (built : IsBuilt rules start [] b) (none : b.edges.items ≡ []) where
  no_edges_left : edges_of b.edges.items ≡ []
  no_edges_left = ap edges_of none

  target_of : (i : ℕ) (s : Lr1State) (x : SymbolNumber) → slice_get b.states.items i ≡ Some s → targets_of b.states.items i x ≡ target_at s x
  target_of i s x h = ap (option_and_then (λ (r : Lr1State). target_at r x)) h

  leads : (i : ℕ) (u : List SymbolNumber) (s : Lr1State) → slice_get (paths_of b.origins.items) i ≡ Some u → slice_get b.states.items i ≡ Some s → (x : SymbolNumber) (j : ℕ) → target_at s x ≡ Some j → LeadsTo rules start (paths_of b.origins.items) (x ∷ u) j
  leads i u s g h x j e =
      let w = built.walk.targets_lead i x j (target_of i s x h ∙ e) in
      let same : w.0 ≡ u = same_Some w.0 u (sym w.1 ∙ g) in
      subst (λ v. LeadsTo rules start (paths_of b.origins.items) (x ∷ v) j) same (w.2, w.3)

  led : (i : ℕ) (u : List SymbolNumber) (s : Lr1State) → slice_get (paths_of b.origins.items) i ≡ Some u → slice_get b.states.items i ≡ Some s → (x : SymbolNumber) (j : ℕ) → LeadsTo rules start (paths_of b.origins.items) (x ∷ u) j → target_at s x ≡ Some j
  led i u s g h x j l =
      ⊎_elim (λ (c : Contains (edges_of b.edges.items) (i, x)). absurd (let d : Contains {X = ℕ × SymbolNumber} [] (i, x) = subst (λ es. Contains es (i, x)) no_edges_left c in omega (arith, d.1))) (λ t. let same : t.0 ≡ j = built.walk.apart t.0 j t.2.0 l.1.0 t.2.1 l.1.1 (alike_both rules start t.2.0 (x ∷ u) l.1.0 t.2.2 (alike_back rules start l.1.0 (x ∷ u) l.1.2)) in sym (target_of i s x h) ∙ t.1 ∙ ap Some same) (built.walk.followed i x u g l.0)

  pub states_built : AreStates rules start (paths_of b.origins.items) b.states.items
  states_built = record {
    first = numbered_are_first rules start (paths_of b.origins.items) (targets_of b.states.items) (edges_of b.edges.items) built.walk;
    all = λ v ok. let r = all_covered rules start (paths_of b.origins.items) (targets_of b.states.items) (edges_of b.edges.items) built.walk no_edges_left v ok in (r.0, (r.1.0, r.1.1, r.1.2));
    calm = built.calm;
    few = omega (arith, length_paths [] b.origins.items, built.count, built.few);
    same_count = omega (arith, length_paths [] b.origins.items, built.count);
    each = λ i u s g h. record { shows = built.shown i u s g h; shifts = λ n j. (leads i u s g h (by_number.Terminal n) j, led i u s g h (by_number.Terminal n) j); gotos = λ n j. (leads i u s g h (by_number.Nonterminal n) j, led i u s g h (by_number.Nonterminal n) j) };
  }

-- ---- what calls keep
pub same_origins : (a b : Builder) → a.origins ≡ b.origins → a.origins.items ≡ b.origins.items
same_origins a b e = rw e refl

pub same_edges : (a b : Builder) → a.edges ≡ b.edges → a.edges.items ≡ b.edges.items
same_edges a b e = rw e refl

pub put_kept : (old mid after new : BTreeMap ItemMap ℕ) (k : ItemMap) (m n : ℕ) → mid ≡ old → new ≡ after → m ≡ n → IsPut kernel_cmp mid after k m → IsPut kernel_cmp old new k n
put_kept old mid after new k m n e f g put =
    subst (λ (o : BTreeMap ItemMap ℕ). IsPut kernel_cmp o new k n) e (subst (λ (o : BTreeMap ItemMap ℕ). IsPut kernel_cmp mid o k n) (sym f) (subst (λ i. IsPut kernel_cmp mid after k i) g put))
