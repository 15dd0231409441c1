-- Slots along an edge: the target's are the last ones of the source with the new symbol. And which are optional.
use Rattle.std.proofs.Common.{◌≡◌, ◌⊎◌, ◌↔◌, ℕ, zero, suc, ◌+◌, ◌-◌, ◌<◌, ◌≤◌, List, [], ◌∷◌, ◌++◌, length, map, drop, Some, slice_get, refl, sym, ap, ◌∙◌, ⊎_elim, inl, inr, subst, arith, length-append}
use Rattle.std.proofs.lemmas.List.{map-append, drop-append-le, nil_from_length}
use Rattle.lp_repr.specs.Closure.{HasItem}
use Rattle.lp_repr.specs.StateParts.{max_prefix_of, will_pop_of}
use Rattle.lp_repr.specs.ValidTables.{IsValidTables}
use Rattle.lp_repr.specs.declared.repr.Grammar.{Grammar}
use Rattle.lp_repr.specs.declared.repr.Symbol.{Symbol}
use Rattle.lp_repr.specs.declared.numbering.SymbolNumber.{SymbolNumber}
use Rattle.lp_repr.specs.declared.lr1.Item.{Item}
use Rattle.lp_repr.specs.declared.lr1.Lr1State.{Lr1State}
use Rattle.lp_valid.specs.ValidGrammar.{IsValidGrammar}
use Rattle.lp_turn_laws.specs.Paths.Dots.{IsGreatestDot, IsLeastDot}
use Rattle.lp_turn_laws.specs.Paths.Ends.{symbol_named, IsEnd}
use Rattle.lp_turn_laws.specs.Paths.Walks.{edge_at, IsWalk, end_of}
use Rattle.lp_turn_laws.proofs.Paths.Edges.{one_at, back_over, forward_over, edge_follows, first_at_0}
use Rattle.lp_turn_laws.proofs.Paths.EndsOf.{ends_nested, ends_push}
use Rattle.lp_turn_laws.proofs.Paths.Slots.{greatest_dot, least_dot, prefix_ends, pop_ends}
use Rattle.lp_turn_laws.proofs.Paths.Walks.{walk_append, end_append}

-- ---- dots of some items
-- the least dot above 0 is at most the greatest
pub least_within : (items : List Item) (m f : ℕ) → IsGreatestDot items m → IsLeastDot items f → f ≤ m
least_within items m f great least =
    ⊎_elim (λ (e : f ≡ 0). omega arith) (λ (w : (p : ℕ) × HasItem items p f). great.bound w.0 f w.1) least.reached

-- where a dot is above 0, so is the least
pub least_some : (items : List Item) (m f : ℕ) → IsGreatestDot items m → IsLeastDot items f → 0 < m → 0 < f
least_some items m f great least l =
    ⊎_elim (λ (e : m ≡ 0). omega arith) (λ (w : (p : ℕ) × HasItem items p m). (least.bound w.0 m w.1 l).0) great.reached

-- slot i, the deepest first, is above the fixed ones exactly where some item's dot is above 0 and doesn't reach it
pub optional_where : (items : List Item) (m f i : ℕ) → IsGreatestDot items m → IsLeastDot items f → (i < m - f) ↔ ((p d : ℕ) × HasItem items p d × (0 < d) × (d + i < m))
optional_where items m f i great least = (
  λ l.
      let s : 0 < f = least_some items m f great least (omega arith) in
      ⊎_elim (λ (e : f ≡ 0). absurd (omega arith)) (λ (w : (p : ℕ) × HasItem items p f). (w.0, f, w.1, s, omega arith)) least.reached,
  λ w. let b = (least.bound w.0 w.1 w.2 w.3).1 in omega (arith, b, w.4),
)

-- the item with the greatest dot reaches each slot
pub reached_where : (items : List Item) (m i : ℕ) → IsGreatestDot items m → i < m → (p d : ℕ) × HasItem items p d × (m ≤ d + i)
reached_where items m i great l =
    ⊎_elim (λ (e : m ≡ 0). absurd (omega arith)) (λ (w : (p : ℕ) × HasItem items p m). (w.0, m, w.1, omega arith)) great.reached

module _ (g : Grammar) (grammar : IsValidGrammar g) (start : ℕ) (states : List Lr1State) (valid : IsValidTables g start states) where
  -- state 0 has no slots
  pub no_slots_at_0 : (s : Lr1State) → slice_get states 0 ≡ Some s → (max_prefix_of g s.items ≡ []) × (will_pop_of g s.items ≡ [])
  no_slots_at_0 s at =
      let great = greatest_dot g grammar start states valid 0 s at in
      let least = least_dot g grammar start states valid 0 s at in
      let m : length (max_prefix_of g s.items) ≡ 0 = ⊎_elim (λ (e : length (max_prefix_of g s.items) ≡ 0). e) (λ (w : (p : ℕ) × HasItem s.items p (length (max_prefix_of g s.items))). first_at_0 g start states valid w.0 (length (max_prefix_of g s.items)) (s, at, w.1)) great.reached in
      let l = least_within s.items (length (max_prefix_of g s.items)) (length (will_pop_of g s.items)) great least in
      (nil_from_length (max_prefix_of g s.items) m, nil_from_length (will_pop_of g s.items) (omega arith))

  -- ---- an edge
  module _ (q : ℕ) (x : SymbolNumber) (p : ℕ) (edge : edge_at states q x ≡ Some p) (t : Lr1State) (to : slice_get states p ≡ Some t) where
    -- its target has an item that is not first
    moved_item : (y d : ℕ) × HasItem t.items y (suc d)
    moved_item =
        let f = edge_follows g start states valid q x p edge in
        let h = forward_over g start states valid q x p f.0 f.1 edge f.2 f.3 in
        (f.0, f.1, subst (λ (v : Lr1State). HasItem v.items f.0 (suc f.1)) (one_at (slice_get states p) h.0 t h.1 to) h.2)

    -- so it has a fixed slot
    pub fixed_some : 0 < length (will_pop_of g t.items)
    fixed_some = let m = moved_item in ((least_dot g grammar start states valid p t to).bound m.0 (suc m.1) m.2 (omega arith)).0

    -- and a slot
    pub slots_some : 0 < length (max_prefix_of g t.items)
    slots_some =
        let l = least_within t.items (length (max_prefix_of g t.items)) (length (will_pop_of g t.items)) (greatest_dot g grammar start states valid p t to) (least_dot g grammar start states valid p t to) in
        let f = fixed_some in
        omega (arith, l, f)

    -- a dot of the target is at most one more than one of the source
    dot_back : (s : Lr1State) → slice_get states q ≡ Some s → (y d : ℕ) → HasItem t.items y d → d ≤ length (max_prefix_of g s.items) + 1
    dot_back s at y zero h = omega arith
    dot_back s at y (suc d) h =
        let b = (back_over g start states valid q x p y d edge (t, to, h)).0 in
        let i = subst (λ (v : Lr1State). HasItem v.items y d) (one_at (slice_get states q) b.0 s b.1 at) b.2 in
        let l = (greatest_dot g grammar start states valid q s at).bound y d i in
        omega (arith, l)

    -- it has at most one slot more
    pub slots_grow : (s : Lr1State) → slice_get states q ≡ Some s → length (max_prefix_of g t.items) ≤ length (max_prefix_of g s.items) + 1
    slots_grow s at =
        ⊎_elim
        (λ (e : length (max_prefix_of g t.items) ≡ 0). omega arith)
        (λ (w : (y : ℕ) × HasItem t.items y (length (max_prefix_of g t.items))). dot_back s at w.0 (length (max_prefix_of g t.items)) w.1)
        (greatest_dot g grammar start states valid p t to).reached

    -- it has one fixed slot, or more than the source
    pub fixed_grow : (s : Lr1State) → slice_get states q ≡ Some s → (length (will_pop_of g t.items) ≡ 1) ⊎ (length (will_pop_of g s.items) < length (will_pop_of g t.items))
    fixed_grow s at = ⊎_elim (λ (e : length (will_pop_of g t.items) ≡ 0). (let f = fixed_some in absurd (omega arith))) (λ (w : (y : ℕ) × HasItem t.items y (length (will_pop_of g t.items))). dot_fixed (length (will_pop_of g t.items)) w.0 fixed_some w.1) (least_dot g grammar start states valid p t to).reached
      where
        dot_fixed : (d y : ℕ) → 0 < d → HasItem t.items y d → (d ≡ 1) ⊎ (length (will_pop_of g s.items) < d)
        dot_fixed zero y l h = absurd (omega arith)
        dot_fixed (suc zero) y l h = inl refl
        dot_fixed (suc (suc d)) y l h =
            let b = (back_over g start states valid q x p y (suc d) edge (t, to, h)).0 in
            let i = subst (λ (v : Lr1State). HasItem v.items y (suc d)) (one_at (slice_get states q) b.0 s b.1 at) b.2 in
            let k = ((least_dot g grammar start states valid q s at).bound y (suc d) i (omega arith)).1 in
            inr (omega (arith, k))

    -- an optional slot of the target, but the new symbol's, is an optional one of the source, unless one slot is fixed
    pub optional_back : (s : Lr1State) → slice_get states q ≡ Some s → (i : ℕ) → i < length (max_prefix_of g t.items) - length (will_pop_of g t.items) → (length (will_pop_of g t.items) ≡ 1) ⊎ (i + (length (max_prefix_of g s.items) + 1 - length (max_prefix_of g t.items)) < length (max_prefix_of g s.items) - length (will_pop_of g s.items))
    optional_back s at i l =
        let m = slots_grow s at in
        ⊎_elim (λ (e : length (will_pop_of g t.items) ≡ 1). inl e) (λ (k : length (will_pop_of g s.items) < length (will_pop_of g t.items)). inr (omega (arith, m))) (fixed_grow s at)

  -- ---- an edge at the end of a path
  -- an end behind a pushed element is an end of what was there and that element
  end_pushed : (us zs : List Symbol) (x : Symbol) → 0 < length us → IsEnd us (zs ++ x ∷ []) → (vs : List Symbol) × (us ≡ vs ++ x ∷ []) × IsEnd vs zs
  end_pushed us zs x l u =
      let n = length-append zs (x ∷ []) in
      let d = drop-append-le u.before zs (x ∷ []) (omega (arith, u.count, n)) in
      let k : length us ≡ length (drop u.before zs) + 1 = ap length (sym u.same ∙ d) ∙ length-append (drop u.before zs) (x ∷ []) in
      (drop u.before zs, sym u.same ∙ d, record { before = u.before; count = omega (arith, u.count, n, k); same = refl })

  module _ (ps : List ℕ) (xs : List SymbolNumber) (walks : IsWalk states 0 ps xs) (s : Lr1State) (at : slice_get states (end_of 0 ps) ≡ Some s) where
    -- the fixed slots are the last ones
    pub fixed_ends : IsEnd (will_pop_of g s.items) (max_prefix_of g s.items)
    fixed_ends =
        ends_nested (will_pop_of g s.items) (max_prefix_of g s.items) (map (symbol_named g) xs) (pop_ends g grammar start states valid ps xs walks s at) (prefix_ends g grammar start states valid ps xs walks s at)
        (least_within s.items (length (max_prefix_of g s.items)) (length (will_pop_of g s.items)) (greatest_dot g grammar start states valid (end_of 0 ps) s at) (least_dot g grammar start states valid (end_of 0 ps) s at))

    -- the target's slots are the last ones of these with the new symbol
    pub target_slots : (x : SymbolNumber) (p : ℕ) (t : Lr1State) → edge_at states (end_of 0 ps) x ≡ Some p → slice_get states p ≡ Some t → (us : List Symbol) × (max_prefix_of g t.items ≡ us ++ symbol_named g x ∷ []) × IsEnd us (max_prefix_of g s.items)
    target_slots x p t edge to =
        let q = end_of 0 ps in
        let w : IsWalk states 0 (ps ++ p ∷ []) (xs ++ x ∷ []) = walk_append states 0 ps (p ∷ []) xs (x ∷ []) walks (edge, tt) in
        let e : end_of 0 (ps ++ p ∷ []) ≡ p = end_append 0 ps (p ∷ []) in
        let named : map (symbol_named g) (xs ++ x ∷ []) ≡ map (symbol_named g) xs ++ symbol_named g x ∷ [] = map-append (symbol_named g) xs (x ∷ []) in
        let target = subst (λ (zs : List Symbol). IsEnd (max_prefix_of g t.items) zs) named (prefix_ends g grammar start states valid (ps ++ p ∷ []) (xs ++ x ∷ []) w t (subst (λ (i : ℕ). slice_get states i ≡ Some t) (sym e) to)) in
        let source = ends_push (max_prefix_of g s.items) (map (symbol_named g) xs) (symbol_named g x) (prefix_ends g grammar start states valid ps xs walks s at) in
        let l = slots_grow q x p edge t to s at in
        let n = length-append (max_prefix_of g s.items) (symbol_named g x ∷ []) in
        end_pushed (max_prefix_of g t.items) (max_prefix_of g s.items) (symbol_named g x) (slots_some q x p edge t to)
        (ends_nested (max_prefix_of g t.items) (max_prefix_of g s.items ++ symbol_named g x ∷ []) (map (symbol_named g) xs ++ symbol_named g x ∷ []) target source (omega (arith, l, n)))
