-- Items that are moved over their symbols, one by one.
use Rattle.std.proofs.Common.{◌≡◌, ℕ, ◌+◌, ◌⊎◌, Bool, true, false, cond, List, [], ◌∷◌, Option, Some, None, refl, sym, ap, ◌∙◌, ⊎_elim, inl, inr, subst, arith, Contains}
use Rattle.std.specs.BTreeMap as tree
use Rattle.std.specs.BTreeMap.{BTreeMap}
use Rattle.std.specs.Option.{option_and_then}
use Rattle.std.specs.Ordering.{eq_by_cmp, is_eq}
use Rattle.std.specs.declared.cmp.Ordering.{Ordering}
use Rattle.std.specs.declared.cmp.Ordering.TheVariants.{Less, Equal, Greater}
use Rattle.std.proofs.lemmas.Cmp.{tied_itself}
use Rattle.std.proofs.lemmas.Map.Views.{btree_map_get_iff}
use Rattle.std.proofs.lemmas.Option.{same_Some, none-some}
use Rattle.lp_repr.specs.Closure.{next_symbol}
use Rattle.lp_repr.specs.declared.numbering.Rule.{Rule}
use Rattle.lp_repr.specs.declared.numbering.SymbolNumber.{SymbolNumber}
use Rattle.lp_sets.specs.declared.tokens.TokenSet.{TokenSet}
use Rattle.lp_states.specs.ItemMaps.{ItemMap, item_cmp, lookaheads_at, Stands}
use Rattle.lp_states.specs.Actions.{Entry, symbol_cmp, AreMoved, IsMovedIn}
use Rattle.lp_states.proofs.Closures.{is_some_from}
use Rattle.lp_states.proofs.ItemOrder.{item_total, item_exact}
use Rattle.lp_states.proofs.SymbolOrder.{symbol_total, symbol_exact}
use Rattle.lp_states.proofs.WalkSteps.{in_cases}

equal_from : (o : Ordering) → is_eq o ≡ true → o ≡ Equal
equal_from Less h = cc
equal_from Equal h = refl
equal_from Greater h = cc

same_pair : (p d q e : ℕ) → p ≡ q → d ≡ e → {X : Type 0} (f : ℕ × ℕ → X) → f (p, d) ≡ f (q, e)
same_pair p d q e a b f = ap (λ (m : ℕ). f (m, d)) a ∙ ap (λ (m : ℕ). f (q, m)) b

-- the sets that the items so far gave, where some entries are left
pub record MovedSoFar (rules : List Rule) (items : ItemMap) (left : List Entry) (found : BTreeMap SymbolNumber ItemMap) : Type 0 where
  pub ordered : tree.IsOrdered symbol_cmp found
  pub each_ordered : (x : SymbolNumber) (k : ItemMap) → tree.get symbol_cmp found x ≡ Some k → tree.IsOrdered item_cmp k
  pub some : (x : SymbolNumber) (k : ItemMap) → tree.get symbol_cmp found x ≡ Some k → (p : ℕ) × (e : ℕ) × Stands items p e × (next_symbol rules p e ≡ Some x)
  pub all : (x : SymbolNumber) (p e : ℕ) (s : TokenSet) → lookaheads_at items p e ≡ Some s → next_symbol rules p e ≡ Some x → Contains left ((p, e), s) ⊎ ((k : ItemMap) × (tree.get symbol_cmp found x ≡ Some k) × (lookaheads_at k p (e + 1) ≡ Some s))
  pub only : (x : SymbolNumber) (k : ItemMap) (p d : ℕ) (s : TokenSet) → tree.get symbol_cmp found x ≡ Some k → lookaheads_at k p d ≡ Some s → (e : ℕ) × (d ≡ e + 1) × (lookaheads_at items p e ≡ Some s) × (next_symbol rules p e ≡ Some x)

module _ (rules : List Rule) (items : ItemMap) (ordered : tree.IsOrdered item_cmp items) where
  pub moved_none : (found : BTreeMap SymbolNumber ItemMap) → tree.IsOrdered symbol_cmp found → ((x : SymbolNumber) → tree.get symbol_cmp found x ≡ None) → MovedSoFar rules items items.entries found
  moved_none found o none = record {
    ordered = o;
    each_ordered = λ x k h. absurd (none-some k (sym (none x) ∙ h));
    some = λ x k h. absurd (none-some k (sym (none x) ∙ h));
    all = λ x p e s h n. inl ((btree_map_get_iff item_total item_exact items ordered (p, e) s).0 h);
    only = λ x k p d s h g. absurd (none-some k (sym (none x) ∙ h));
  }

  pub moved_all : (found : BTreeMap SymbolNumber ItemMap) → MovedSoFar rules items [] found → AreMoved rules items found
  moved_all found h = record {
    ordered = h.ordered;
    each_ordered = h.each_ordered;
    some = h.some;
    all = λ x p e s at n. ⊎_elim (λ (c : Contains [] ((p, e), s)). absurd (omega (arith, c.1))) (λ w. w) (h.all x p e s at n);
    only = h.only;
  }

  module _ (p e : ℕ) (s : TokenSet) (here : lookaheads_at items p e ≡ Some s) (left : List Entry) (found : BTreeMap SymbolNumber ItemMap) (so_far : MovedSoFar rules items (((p, e), s) ∷ left) found) where
    same_set : (q f : ℕ) (t : TokenSet) → lookaheads_at items q f ≡ Some t → ◌≡◌ {A = Entry} ((p, e), s) ((q, f), t) → (p ≡ q) × (e ≡ f) × (s ≡ t)
    same_set q f t at h = (ap (λ (x : Entry). x.0.0) h, ap (λ (x : Entry). x.0.1) h, ap (λ (x : Entry). x.1) h)

    -- an item that is not moved
    pub moved_other : ((x : SymbolNumber) → next_symbol rules p e ≡ Some x → ⊥) → MovedSoFar rules items left found
    moved_other complete = record {
      ordered = so_far.ordered;
      each_ordered = so_far.each_ordered;
      some = so_far.some;
      all = λ y q f t at n. ⊎_elim (λ (c : Contains (((p, e), s) ∷ left) ((q, f), t)). ⊎_elim (λ (h : ◌≡◌ {A = Entry} ((p, e), s) ((q, f), t)). let w = same_set q f t at h in absurd (complete y (same_pair p e q f w.0 w.1 (λ (z : ℕ × ℕ). next_symbol rules z.0 z.1) ∙ n))) (λ (d : Contains left ((q, f), t)). inl d) (in_cases ((p, e), s) left ((q, f), t) c)) (λ w. inr w) (so_far.all y q f t at n);
      only = so_far.only;
    }

    module _ (x : SymbolNumber) (next : next_symbol rules p e ≡ Some x) (new : BTreeMap SymbolNumber ItemMap) (moved : IsMovedIn found new x p e s) where
      at_symbol : tree.get symbol_cmp new x ≡ Some moved.kernel
      at_symbol = moved.put x ∙ ap (λ (b : Bool). cond b (Some moved.kernel) (tree.get symbol_cmp found x)) (ap is_eq (tied_itself symbol_total x))

      at_item : lookaheads_at moved.kernel p (e + 1) ≡ Some s
      at_item = moved.items (p, e + 1) ∙ ap (λ (b : Bool). cond b (Some s) (option_and_then (λ k. tree.get item_cmp k (p, e + 1)) (tree.get symbol_cmp found x))) (ap is_eq (tied_itself item_total (p, e + 1)))

      -- what the new sets have at a symbol
      set_cases : (y : SymbolNumber) (k : ItemMap) (b : Bool) → eq_by_cmp symbol_cmp x y ≡ b → cond b (Some moved.kernel) (tree.get symbol_cmp found y) ≡ Some k → ((x ≡ y) × (moved.kernel ≡ k)) ⊎ (tree.get symbol_cmp found y ≡ Some k)
      set_cases y k true h g = inl (symbol_exact x y (equal_from (symbol_cmp x y) h), same_Some moved.kernel k g)
      set_cases y k false h g = inr g

      set_at : (y : SymbolNumber) (k : ItemMap) → tree.get symbol_cmp new y ≡ Some k → ((x ≡ y) × (moved.kernel ≡ k)) ⊎ (tree.get symbol_cmp found y ≡ Some k)
      set_at y k h = set_cases y k (eq_by_cmp symbol_cmp x y) refl (sym (moved.put y) ∙ h)

      -- what its set has at an item
      before_at : (o : Option ItemMap) (q : ℕ × ℕ) (t : TokenSet) → option_and_then (λ k. tree.get item_cmp k q) o ≡ Some t → (k : ItemMap) × (o ≡ Some k) × (tree.get item_cmp k q ≡ Some t)
      before_at None q t h = cc
      before_at (Some k) q t h = (k, refl, h)

      item_cases : (q : ℕ × ℕ) (t : TokenSet) (b : Bool) → eq_by_cmp item_cmp (p, e + 1) q ≡ b → cond b (Some s) (option_and_then (λ k. tree.get item_cmp k q) (tree.get symbol_cmp found x)) ≡ Some t → (((p, e + 1) ≡ q) × (s ≡ t)) ⊎ ((k : ItemMap) × (tree.get symbol_cmp found x ≡ Some k) × (tree.get item_cmp k q ≡ Some t))
      item_cases q t true h g = inl (item_exact (p, e + 1) q (equal_from (item_cmp (p, e + 1) q) h), same_Some s t g)
      item_cases q t false h g = inr (before_at (tree.get symbol_cmp found x) q t g)

      only_here : (q d : ℕ) (t : TokenSet) → lookaheads_at moved.kernel q d ≡ Some t → (f : ℕ) × (d ≡ f + 1) × (lookaheads_at items q f ≡ Some t) × (next_symbol rules q f ≡ Some x)
      only_here q d t h =
          ⊎_elim (λ w. let a : p ≡ q = ap (λ (z : ℕ × ℕ). z.0) w.0 in let b : e + 1 ≡ d = ap (λ (z : ℕ × ℕ). z.1) w.0 in (e, sym b, ap (λ (m : ℕ). lookaheads_at items m e) (sym a) ∙ here ∙ ap Some w.1, ap (λ (m : ℕ). next_symbol rules m e) (sym a) ∙ next)) (λ w. so_far.only x w.0 q d t w.1 w.2) (item_cases (q, d) t (eq_by_cmp item_cmp (p, e + 1) (q, d)) refl (sym (moved.items (q, d)) ∙ h))

      -- what was there stays
      item_stays : (q d : ℕ) (t : TokenSet) (k : ItemMap) (b : Bool) → tree.get symbol_cmp found x ≡ Some k → lookaheads_at k q d ≡ Some t → (◌≡◌ {A = ℕ × ℕ} (p, e + 1) (q, d) → s ≡ t) → eq_by_cmp item_cmp (p, e + 1) (q, d) ≡ b → cond b (Some s) (option_and_then (λ m. tree.get item_cmp m (q, d)) (tree.get symbol_cmp found x)) ≡ Some t
      item_stays q d t k true at h same g = ap Some (same (item_exact (p, e + 1) (q, d) (equal_from (item_cmp (p, e + 1) (q, d)) g)))
      item_stays q d t k false at h same g = ap (option_and_then (λ m. tree.get item_cmp m (q, d))) at ∙ h

      set_stays : (y : SymbolNumber) (k : ItemMap) (b : Bool) → eq_by_cmp symbol_cmp x y ≡ b → tree.get symbol_cmp found y ≡ Some k → ((x ≡ y) ⊎ (cond b (Some moved.kernel) (tree.get symbol_cmp found y) ≡ Some k))
      set_stays y k true h g = inl (symbol_exact x y (equal_from (symbol_cmp x y) h))
      set_stays y k false h g = inr g

      kept : (y : SymbolNumber) (q f : ℕ) (t : TokenSet) (k : ItemMap) → lookaheads_at items q f ≡ Some t → tree.get symbol_cmp found y ≡ Some k → lookaheads_at k q (f + 1) ≡ Some t → (m : ItemMap) × (tree.get symbol_cmp new y ≡ Some m) × (lookaheads_at m q (f + 1) ≡ Some t)
      kept y q f t k at g h =
          ⊎_elim (λ (same : x ≡ y). let k_at : tree.get symbol_cmp found x ≡ Some k = ap (tree.get symbol_cmp found) same ∙ g in (moved.kernel, ap (tree.get symbol_cmp new) (sym same) ∙ at_symbol, moved.items (q, f + 1) ∙ item_stays q (f + 1) t k (eq_by_cmp item_cmp (p, e + 1) (q, f + 1)) k_at h (λ z. let a : p ≡ q = ap (λ (v : ℕ × ℕ). v.0) z in let b : e + 1 ≡ f + 1 = ap (λ (v : ℕ × ℕ). v.1) z in let c : e ≡ f = omega arith in same_Some s t (sym here ∙ same_pair p e q f a c (λ (v : ℕ × ℕ). lookaheads_at items v.0 v.1) ∙ at)) refl)) (λ (other : cond (eq_by_cmp symbol_cmp x y) (Some moved.kernel) (tree.get symbol_cmp found y) ≡ Some k). (k, moved.put y ∙ other, h)) (set_stays y k (eq_by_cmp symbol_cmp x y) refl g)

      added : (y : SymbolNumber) (q f : ℕ) (t : TokenSet) → lookaheads_at items q f ≡ Some t → next_symbol rules q f ≡ Some y → ◌≡◌ {A = Entry} ((p, e), s) ((q, f), t) → (m : ItemMap) × (tree.get symbol_cmp new y ≡ Some m) × (lookaheads_at m q (f + 1) ≡ Some t)
      added y q f t at n h =
          let w = same_set q f t at h in
          let y_is : x ≡ y = same_Some x y (sym next ∙ same_pair p e q f w.0 w.1 (λ (v : ℕ × ℕ). next_symbol rules v.0 v.1) ∙ n) in
          (moved.kernel, ap (tree.get symbol_cmp new) (sym y_is) ∙ at_symbol, same_pair q (f + 1) p (e + 1) (sym w.0) (ap (λ (m : ℕ). m + 1) (sym w.1)) (λ (v : ℕ × ℕ). lookaheads_at moved.kernel v.0 v.1) ∙ at_item ∙ ap Some w.2)

      pub moved_more : MovedSoFar rules items left new
      moved_more = record {
        ordered = moved.ordered;
        each_ordered = λ y k h. ⊎_elim (λ w. subst (λ (m : ItemMap). tree.IsOrdered item_cmp m) w.1 moved.kernel_ordered) (λ (o : tree.get symbol_cmp found y ≡ Some k). so_far.each_ordered y k o) (set_at y k h);
        some = λ y k h. ⊎_elim (λ w. (p, e, is_some_from (lookaheads_at items p e) s here, next ∙ ap Some w.0)) (λ (o : tree.get symbol_cmp found y ≡ Some k). so_far.some y k o) (set_at y k h);
        all = λ y q f t at n. ⊎_elim (λ (c : Contains (((p, e), s) ∷ left) ((q, f), t)). ⊎_elim (λ (h : ◌≡◌ {A = Entry} ((p, e), s) ((q, f), t)). inr (added y q f t at n h)) (λ (d : Contains left ((q, f), t)). inl d) (in_cases ((p, e), s) left ((q, f), t) c)) (λ w. inr (kept y q f t w.0 at w.1 w.2)) (so_far.all y q f t at n);
        only = λ y k q d t h g. ⊎_elim (λ w. let r = only_here q d t (ap (λ (m : ItemMap). lookaheads_at m q d) w.1 ∙ g) in (r.0, r.1, r.2, r.3 ∙ ap Some w.0)) (λ (o : tree.get symbol_cmp found y ≡ Some k). so_far.only y k q d t o g) (set_at y k h);
      }
