-- The target of an edge, by its items one by one.
use Rattle.std.proofs.Common.{◌≡◌, ◌↔◌, ◌⊎◌, inl, inr, ℕ, ◌+◌, ◌-◌, ◌<◌, Bool, List, refl, arith, sym, ◌∙◌, subst, Some, IsTrue, ⊎_elim}
use Rattle.std.specs.BTreeMap.{BTreeMap, get}
use Rattle.std.specs.BTreeSet.{BTreeSet}
use Rattle.std.specs.List.{AllByRecursion}
use Rattle.std.specs.Ordering.{nat_cmp}
use Rattle.std.proofs.lemmas.Option.{same_Some}
use Rattle.lp_repr.specs.Closure.{next_symbol, HasItem, InClosure, given, opened, Advanced}
use Rattle.lp_repr.specs.ValidTables.{IsTarget, IsClosureOf}
use Rattle.lp_repr.specs.declared.lr1.Item.{Item}
use Rattle.lp_repr.specs.declared.lr1.Lr1State.{Lr1State}
use Rattle.lp_repr.specs.declared.numbering.Rule.{Rule}
use Rattle.lp_tables.specs.Edges.{ComesFrom, CameOver, GoesOn}
use Rattle.lp_tables.specs.ItemSets.{IsSetOf}
use Rattle.lp_tables.specs.Numbers.{symbol_of}
use Rattle.lp_tables.specs.Opening.{IsClosed}
use Rattle.lp_tables.specs.declared.rules.Kind.{Kind}
use Rattle.lp_tables.proofs.Items.{symbol_after, number_from, each_item, item_each}

-- closures of what is the same
closure_to : (rules : List Rule) (P Q : ℕ → ℕ → Type 0) → ((p d : ℕ) → P p d → Q p d) → (p d : ℕ) → InClosure rules P p d → InClosure rules Q p d
closure_to rules P Q f _ _ (given p d h) = given p d (f p d h)
closure_to rules P Q f _ _ (opened p d n q c e l) = opened p d n q (closure_to rules P Q f p d c) e l

-- an item of a closure with a symbol before the dot was given
given_or_first : (rules : List Rule) (P : ℕ → ℕ → Type 0) (p d : ℕ) → InClosure rules P p d → P p d ⊎ (d ≡ 0)
given_or_first rules P _ _ (given p d h) = inl h
given_or_first rules P _ _ (opened p d n q c e l) = inr refl

kernel_given : (rules : List Rule) (P : ℕ → ℕ → Type 0) (p d : ℕ) → 0 < d → InClosure rules P p d → P p d
kernel_given rules P p d pos c = ⊎_elim (λ h. h) (λ z. absurd (omega arith)) (given_or_first rules P p d c)

-- a state that has the items of a closure with a symbol before the dot is closed exactly where it is that closure
pub closed_to_closure : (rules : List Rule) (P : ℕ → ℕ → Type 0) (t : Lr1State) → ((p d : ℕ) → HasItem t.items p d → 0 < d → P p d) → ((p d : ℕ) → P p d → HasItem t.items p d × (0 < d)) → IsClosed rules t → IsClosureOf rules P t
closed_to_closure rules P t to back closed = λ p d. (
  λ i. closure_to rules (λ p d. HasItem t.items p d × (0 < d)) P (λ p d k. to p d k.0 k.1) p d ((closed p d).0 i),
  λ c. (closed p d).1 (closure_to rules P (λ p d. HasItem t.items p d × (0 < d)) back p d c),
)

pub closure_to_closed : (rules : List Rule) (P : ℕ → ℕ → Type 0) (t : Lr1State) → ((p d : ℕ) → P p d → 0 < d) → IsClosureOf rules P t → IsClosed rules t
closure_to_closed rules P t pos h = λ p d. (
  λ i. closure_to rules P (λ p d. HasItem t.items p d × (0 < d)) (λ p d g. ((h p d).1 (given p d g), pos p d g)) p d ((h p d).0 i),
  λ c. (h p d).1 (closure_to rules (λ p d. HasItem t.items p d × (0 < d)) P (λ p d k. kernel_given rules P p d k.1 ((h p d).0 k.0)) p d c),
)

advanced_pos : (rules : List Rule) (s : Lr1State) (kind : Kind) (n p d : ℕ) → Advanced rules s.items (symbol_of kind n) p d → 0 < d
advanced_pos rules s kind n p d a = let e : d ≡ a.0 + 1 = a.1 in omega arith

-- an item that came over the symbol from the set of a state was advanced
came_advanced : (rules : List Rule) (s : Lr1State) (set : BTreeSet (ℕ × ℕ)) (kind : Kind) (n p d : ℕ) → IsSetOf s.items set → 0 < d → CameOver rules set kind n p (d - 1) → Advanced rules s.items (symbol_of kind n) p d
came_advanced rules s set kind n p d of pos c = (d - 1, omega arith, (of p (d - 1)).0 c.1, symbol_after kind (next_symbol rules p (d - 1)) n c.0)

advanced_came : (rules : List Rule) (s : Lr1State) (set : BTreeSet (ℕ × ℕ)) (kind : Kind) (n p d : ℕ) → IsSetOf s.items set → Advanced rules s.items (symbol_of kind n) p d → CameOver rules set kind n p (d - 1)
advanced_came rules s set kind n p d of a =
    let e : a.0 ≡ d - 1 = (let f : d ≡ a.0 + 1 = a.1 in omega arith) in
    subst (CameOver rules set kind n p) e (number_from kind (next_symbol rules p a.0) n a.3, (of p a.0).1 a.2)

module _ (rules : List Rule) (states : List Lr1State) (s : Lr1State) (set : BTreeSet (ℕ × ℕ)) (kind : Kind) (edges : BTreeMap ℕ ℕ) (of : IsSetOf s.items set) where
  -- the targets of all edges
  abbrev Lead : Type 0
  Lead = (n target : ℕ) → get nat_cmp edges n ≡ Some target → IsTarget rules states s (symbol_of kind n) target

  lead_when : ((n target : ℕ) → get nat_cmp edges n ≡ Some target → ComesFrom rules states set kind n target) → AllByRecursion (λ (i : Item). GoesOn rules states kind edges i.production i.index) s.items → Lead
  lead_when come go = λ n target e.
      let c = come n target e in
      let t = c.0 in (
        t,
        c.1,
        closed_to_closure rules (Advanced rules s.items (symbol_of kind n)) t
            (λ p d i pos. came_advanced rules s set kind n p d of pos (each_item (λ p d. 0 < d → CameOver rules set kind n p (d - 1)) t.items c.3 p d i pos))
            (λ p d a.
            let next = number_from kind (next_symbol rules p a.0) n a.3 in
            let there = each_item (λ p d. GoesOn rules states kind edges p d) s.items go p a.0 a.2 n target next e in
            let same : there.0 ≡ t = same_Some there.0 t (sym there.1 ∙ c.1) in
            let here : HasItem t.items p (a.0 + 1) = subst (λ (u : Lr1State). HasItem u.items p (a.0 + 1)) same there.2 in
            (subst (HasItem t.items p) (sym a.1) here, advanced_pos rules s kind n p d a)) c.2,
      )

  pub lead_comes : Lead → (n target : ℕ) → get nat_cmp edges n ≡ Some target → ComesFrom rules states set kind n target
  lead_comes h n target e =
      let c = h n target e in
      let t = c.0 in
      let pos = advanced_pos rules s kind n in (
        t,
        c.1,
        closure_to_closed rules (Advanced rules s.items (symbol_of kind n)) t pos c.2,
        item_each (λ p d. 0 < d → CameOver rules set kind n p (d - 1)) t.items
            (λ p d i less. advanced_came rules s set kind n p d of (kernel_given rules (Advanced rules s.items (symbol_of kind n)) p d less ((c.2 p d).0 i))),
      )

  lead_goes : Lead → AllByRecursion (λ (i : Item). GoesOn rules states kind edges i.production i.index) s.items
  lead_goes h =
      item_each (λ p d. GoesOn rules states kind edges p d) s.items
      (λ p d i n target next e.
      let c = h n target e in
      (c.0, c.1, (c.2 p (d + 1)).1 (given p (d + 1) (d, refl, i, symbol_after kind (next_symbol rules p d) n next))))

  pub leads : (b : Bool) → ((n target : ℕ) → get nat_cmp edges n ≡ Some target → ComesFrom rules states set kind n target) → (IsTrue b ↔ AllByRecursion (λ (i : Item). GoesOn rules states kind edges i.production i.index) s.items) → IsTrue b ↔ Lead
  leads b come go = (λ yes. lead_when come (go.0 yes), λ h. go.1 (lead_goes h))
