-- The items after a path, as maps.
use Rattle.std.proofs.Common.{◌≡◌, ℕ, suc, ◌<◌, ◌≤◌, List, [], ◌∷◌, length, Option, Some, None, slice_get, refl, sym, ap, ◌∙◌, ⊎_elim, subst, add-one, arith}
use Rattle.std.specs.Option.{option_and_then}
use Rattle.std.proofs.lemmas.Map.Lookups.{btree_map_from_get}
use Rattle.std.proofs.lemmas.Option.{same_Some, none-some, slice_get_within, slice_get_cases}
use Rattle.lp_repr.specs.Closure.{next_symbol, InClosure, given as core_given, opened}
use Rattle.lp_repr.specs.declared.numbering.Rule.{Rule}
use Rattle.lp_repr.specs.declared.numbering.SymbolNumber.{SymbolNumber}
use Rattle.lp_repr.specs.declared.lr1.Token.{Token}
use Rattle.lp_states.specs.ItemSets.{IsCore, IsLookahead, IsBegun, Moved, MovedOn, given}
use Rattle.lp_states.specs.ItemMaps.{ItemMap, lookaheads_at, Stands, StandsOn, IsClosureOf, AreItemsAfter, IsKernelAfter, IsStartKernel}
use Rattle.lp_states.specs.Paths.{LeadAlike}
use Rattle.lp_states.proofs.Closures.{InClosure-more, InLookaheads-more, given_behind, given_behind_on}
use Rattle.lp_states.proofs.ItemOrder.{item_total, item_exact, same_lookaheads}

module _ (rules : List Rule) (start : ℕ) where
  -- ---- the closure of a kernel
  pub start_items : (kernel items : ItemMap) → IsStartKernel rules start kernel → IsClosureOf rules kernel items → AreItemsAfter rules start [] items
  start_items kernel items k c = record {
    cores = λ p d. (λ h. InClosure-more (λ q e. (k.cores q e).0) ((c.cores p d).0 h), λ h. (c.cores p d).1 (InClosure-more (λ q e. (k.cores q e).1) h));
    lookaheads = λ p d t. (λ h. InLookaheads-more (λ q e. (k.cores q e).0) (λ q e s. (k.lookaheads q e s).0) ((c.lookaheads p d t).0 h), λ h. (c.lookaheads p d t).1 (InLookaheads-more (λ q e. (k.cores q e).1) (λ q e s. (k.lookaheads q e s).1) h));
  }

  pub next_items : (x : SymbolNumber) (u : List SymbolNumber) (kernel items : ItemMap) → IsKernelAfter rules start x u kernel → IsClosureOf rules kernel items → AreItemsAfter rules start (x ∷ u) items
  next_items x u kernel items k c = record {
    cores = λ p d. (λ h. InClosure-more (λ q e. (k.cores q e).0) ((c.cores p d).0 h), λ h. (c.cores p d).1 (InClosure-more (λ q e. (k.cores q e).1) h));
    lookaheads = λ p d t. (λ h. InLookaheads-more (λ q e. (k.cores q e).0) (λ q e s. (k.lookaheads q e s).0) ((c.lookaheads p d t).0 h), λ h. (c.lookaheads p d t).1 (InLookaheads-more (λ q e. (k.cores q e).1) (λ q e s. (k.lookaheads q e s).1) h));
  }

  -- ---- kernels tell what paths lead to
  pub kernel_alike : (x y : SymbolNumber) (u v : List SymbolNumber) (kernel : ItemMap) → IsKernelAfter rules start x u kernel → IsKernelAfter rules start y v kernel → LeadAlike rules start (x ∷ u) (y ∷ v)
  kernel_alike x y u v kernel k l = record {
    cores = λ p d. (λ h. InClosure-more (λ q e m. (l.cores q e).0 ((k.cores q e).1 m)) h, λ h. InClosure-more (λ q e m. (k.cores q e).0 ((l.cores q e).1 m)) h);
    lookaheads = λ p d t. (λ h. InLookaheads-more (λ q e m. (l.cores q e).0 ((k.cores q e).1 m)) (λ q e s m. (l.lookaheads q e s).0 ((k.lookaheads q e s).1 m)) h, λ h. InLookaheads-more (λ q e m. (k.cores q e).0 ((l.cores q e).1 m)) (λ q e s m. (k.lookaheads q e s).0 ((l.lookaheads q e s).1 m)) h);
  }

  -- what was moved is among the items, and each item that is not first was moved
  moved_over : (x y : SymbolNumber) (u v : List SymbolNumber) → LeadAlike rules start (x ∷ u) (y ∷ v) → (p d : ℕ) → Moved rules x (IsCore rules start u) p d → Moved rules y (IsCore rules start v) p d
  moved_over x y u v alike p d m =
      let at : d ≡ suc m.0 = m.1 ∙ add-one m.0 in
      let c : IsCore rules start (x ∷ u) p (suc m.0) = subst (λ e. IsCore rules start (x ∷ u) p e) at (core_given p d m) in
      subst (λ e. Moved rules y (IsCore rules start v) p e) (sym at) (given_behind ((alike.cores p (suc m.0)).0 c))

  moved_on_over : (x y : SymbolNumber) (u v : List SymbolNumber) → LeadAlike rules start (x ∷ u) (y ∷ v) → (p d : ℕ) (t : Token) → MovedOn rules x (IsLookahead rules start u) p d t → MovedOn rules y (IsLookahead rules start v) p d t
  moved_on_over x y u v alike p d t m =
      let at : d ≡ suc m.0 = m.1 ∙ add-one m.0 in
      let c : IsLookahead rules start (x ∷ u) p (suc m.0) t = subst (λ e. IsLookahead rules start (x ∷ u) p e t) at (given p d t m) in
      subst (λ e. MovedOn rules y (IsLookahead rules start v) p e t) (sym at) (given_behind_on ((alike.lookaheads p (suc m.0) t).0 c))

  kernel_stands : (x y : SymbolNumber) (u v : List SymbolNumber) (k l : ItemMap) → IsKernelAfter rules start x u k → IsKernelAfter rules start y v l → LeadAlike rules start (x ∷ u) (y ∷ v) → (p d : ℕ) → Stands k p d → Stands l p d
  kernel_stands x y u v k l a b alike p d h = (b.cores p d).1 (moved_over x y u v alike p d ((a.cores p d).0 h))

  kernel_stands_on : (x y : SymbolNumber) (u v : List SymbolNumber) (k l : ItemMap) → IsKernelAfter rules start x u k → IsKernelAfter rules start y v l → LeadAlike rules start (x ∷ u) (y ∷ v) → (p d : ℕ) (t : Token) → StandsOn k p d t → StandsOn l p d t
  kernel_stands_on x y u v k l a b alike p d t h = (b.lookaheads p d t).1 (moved_on_over x y u v alike p d t ((a.lookaheads p d t).0 h))

  pub same_kernel : (x y : SymbolNumber) (u v : List SymbolNumber) (k l : ItemMap) → IsKernelAfter rules start x u k → IsKernelAfter rules start y v l → LeadAlike rules start (x ∷ u) (y ∷ v) → LeadAlike rules start (y ∷ v) (x ∷ u) → k.entries ≡ l.entries
  same_kernel x y u v k l a b alike back =
      btree_map_from_get item_total k l a.ordered b.ordered (λ q. same_lookaheads (lookaheads_at k q.0 q.1) (lookaheads_at l q.0 q.1) (kernel_stands x y u v k l a b alike q.0 q.1, kernel_stands y x v u l k b a back q.0 q.1) (λ t. (kernel_stands_on x y u v k l a b alike q.0 q.1 t, kernel_stands_on y x v u l k b a back q.0 q.1 t))) item_exact

  -- ---- dots are in range
  abbrev InRange : ℕ → ℕ → Type 0
  InRange p d = (r : Rule) × (slice_get rules p ≡ Some r) × (d ≤ length r.right)

  next_from : (o : Option Rule) (d : ℕ) (x : SymbolNumber) → option_and_then (λ (r : Rule). slice_get r.right d) o ≡ Some x → (r : Rule) × (o ≡ Some r) × (d < length r.right)
  next_from None d x h = cc
  next_from (Some r) d x h = (r, refl, slice_get_within r.right d x h)

  closure_in_range : (G : ℕ → ℕ → Type 0) → ((p d : ℕ) → G p d → InRange p d) → (p d : ℕ) → InClosure rules G p d → InRange p d
  closure_in_range G f p d (core_given p' d' g) = f p' d' g
  closure_in_range G f q z (opened p d n q' c e l) = (l.0, l.1, omega arith)

  moved_in_range : (x : SymbolNumber) (Items : ℕ → ℕ → Type 0) (p d : ℕ) → Moved rules x Items p d → InRange p d
  moved_in_range x Items p d m =
      let w = next_from (slice_get rules p) m.0 x m.3 in
      (w.0, w.1, omega (arith, w.2, m.1))

  core_in_range : (path : List SymbolNumber) (p d : ℕ) → IsCore rules start path p d → InRange p d
  core_in_range [] p d c = closure_in_range (IsBegun rules start) (λ q e b. (b.0.0, b.0.1, omega (arith, b.1))) p d c
  core_in_range (x ∷ u) p d c = closure_in_range (Moved rules x (IsCore rules start u)) (moved_in_range x (IsCore rules start u)) p d c

  past_from : (o : Option Rule) (r : Rule) (d : ℕ) → option_and_then (λ (s : Rule). slice_get s.right d) o ≡ None → o ≡ Some r → length r.right ≤ d
  past_from None r d h e = cc
  past_from (Some s) r d h e =
      let same = same_Some s r e in
      ⊎_elim (λ w. absurd (none-some w.0 (sym h ∙ ap (λ (y : Rule). slice_get y.right d) same ∙ w.2))) (λ w. w.0) (slice_get_cases r.right d).1

  -- a complete item has one dot
  pub one_dot : (path : List SymbolNumber) (p d e : ℕ) → IsCore rules start path p d → IsCore rules start path p e → next_symbol rules p d ≡ None → next_symbol rules p e ≡ None → d ≡ e
  one_dot path p d e c b f g =
      let v = core_in_range path p d c in
      let w = core_in_range path p e b in
      let same = same_Some v.0 w.0 (sym v.1 ∙ w.1) in
      let l : length v.0.right ≤ d = past_from (slice_get rules p) v.0 d f v.1 in
      let k : length v.0.right ≤ e = past_from (slice_get rules p) v.0 e g v.1 in
      let m : e ≤ length v.0.right = subst (λ (r : Rule). e ≤ length r.right) (sym same) w.2 in
      omega (arith, v.2)
