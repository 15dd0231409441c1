-- Edges of valid tables, and the items at their ends.
use Rattle.std.proofs.Common.{◌≡◌, ◌⊎◌, ℕ, suc, ◌<◌, List, [], ◌∷◌, length, Option, Some, None, IsSome, IfSome, slice_get, refl, sym, ap, ◌∙◌, ⊎_elim, inl, inr, subst, arith}
use Rattle.std.specs.BTreeMap.{get}
use Rattle.std.specs.Ordering.{nat_cmp}
use Rattle.std.specs.Option.{option_and_then}
use Rattle.std.proofs.lemmas.Option.{same_Some}
use Rattle.lp_repr.specs.Closure.{next_symbol, HasLeft, InClosure, given, opened, HasItem, Advanced}
use Rattle.lp_repr.specs.Numbering.{rules_of}
use Rattle.lp_repr.specs.ValidTables.{Begins, Follows, IsTarget, start_number, IsValidTables}
use Rattle.lp_repr.specs.declared.repr.Grammar.{Grammar}
use Rattle.lp_repr.specs.declared.numbering.Rule.{Rule}
use Rattle.lp_repr.specs.declared.numbering.SymbolNumber.{SymbolNumber}
use Rattle.lp_repr.specs.declared.numbering.SymbolNumber.TheVariants.{Terminal, Nonterminal}
use Rattle.lp_repr.specs.declared.lr1.Lr1State.{Lr1State}
use Rattle.lp_turn_laws.specs.Paths.Walks.{edge_in, edge_from, edge_at, Has, IsUnseen}

-- ---- options
-- what is there
pub some_of : {X : Type 0} (o : Option X) → IsSome o → (x : X) × (o ≡ Some x)
some_of None h = cc
some_of (Some x) h = (x, refl)

-- what is something is there
is_some_from : {X : Type 0} (o : Option X) (x : X) → o ≡ Some x → IsSome o
is_some_from None x e = cc
is_some_from (Some y) x e = refl

-- what holds of what is there holds of this
pub at_some : {X : Type 0} (o : Option X) (P : X → Type 0) (x : X) → o ≡ Some x → IfSome o P → P x
at_some {X} o P x e h = subst (λ (q : Option X). IfSome q P) e h

-- the symbol after a dot stands in the production
pub next_from : (o : Option Rule) (d : ℕ) (x : SymbolNumber) → option_and_then (λ (r : Rule). slice_get r.right d) o ≡ Some x → (r : Rule) × (o ≡ Some r) × (slice_get r.right d ≡ Some x)
next_from None d x h = cc
next_from (Some r) d x h = (r, refl, h)

-- an edge leaves a state
pub edge_source : (o : Option Lr1State) (x : SymbolNumber) (p : ℕ) → edge_from o x ≡ Some p → (s : Lr1State) × (o ≡ Some s) × (edge_in s x ≡ Some p)
edge_source None x p h = cc
edge_source (Some s) x p h = (s, refl, h)

-- ---- closures
-- an item that is not first was given
pub given_behind : {rules : List Rule} {G : ℕ → ℕ → Type 0} {p d : ℕ} → InClosure rules G p (suc d) → G p (suc d)
given_behind (given p d g) = g

-- a closure of items with the dot first has no others
pub first_from : {rules : List Rule} {G : ℕ → ℕ → Type 0} {p d : ℕ} → ((p d : ℕ) → G p d → d ≡ 0) → InClosure rules G p d → d ≡ 0
first_from f (given p d g) = f p d g
first_from f (opened p d n q c e l) = refl

-- an item with the dot first was given, or opened by an item before its nonterminal
pub opened_or_given : {rules : List Rule} {G : ℕ → ℕ → Type 0} {p d : ℕ} → InClosure rules G p d → G p d ⊎ ((q e n : ℕ) × InClosure rules G q e × (next_symbol rules q e ≡ Some (Nonterminal n)) × HasLeft rules p n)
opened_or_given (given p d g) = inl g
opened_or_given (opened p d n q c e l) = inr (p, d, n, c, e, l)

-- what stands at one place is one thing
pub one_at : {X : Type 0} (o : Option X) (x y : X) → o ≡ Some x → o ≡ Some y → x ≡ y
one_at o x y e f = same_Some x y (sym e ∙ f)

module _ (g : Grammar) (start : ℕ) (states : List Lr1State) (valid : IsValidTables g start states) where
  -- ---- targets
  -- the target of an edge is the closure of the advanced items
  target_of : (q : ℕ) (s : Lr1State) (x : SymbolNumber) (p : ℕ) → slice_get states q ≡ Some s → edge_in s x ≡ Some p → IsTarget (rules_of g) states s x p
  target_of q s (Terminal n) p at e = (valid.each q s at).shift_targets n p e
  target_of q s (Nonterminal n) p at e = (valid.each q s at).goto_targets n p e

  -- an item behind an edge that is not first was advanced over its symbol
  pub back_over : (q : ℕ) (x : SymbolNumber) (p y d : ℕ) → edge_at states q x ≡ Some p → Has states p y (suc d) → Has states q y d × (next_symbol (rules_of g) y d ≡ Some x)
  back_over q x p y d e h =
      let s = edge_source (slice_get states q) x p e in
      let t = target_of q s.0 x p s.1 s.2 in
      let u = one_at (slice_get states p) h.0 t.0 h.1 t.1 in
      let a = given_behind ((t.2 y (suc d)).0 (subst (λ (v : Lr1State). HasItem v.items y (suc d)) u h.2)) in
      let k : a.0 ≡ d = omega (arith, a.1) in
      ((s.0, s.1, subst (HasItem s.0.items y) k a.2), subst (λ (i : ℕ). next_symbol (rules_of g) y i ≡ Some x) k a.3)

  -- the target of an edge has each item before the edge's symbol, with the dot moved over it
  pub forward_over : (q : ℕ) (x : SymbolNumber) (p y d : ℕ) → edge_at states q x ≡ Some p → Has states q y d → next_symbol (rules_of g) y d ≡ Some x → Has states p y (suc d)
  forward_over q x p y d e h f =
      let s = edge_source (slice_get states q) x p e in
      let t = target_of q s.0 x p s.1 s.2 in
      let u = one_at (slice_get states q) h.0 s.0 h.1 s.1 in
      (t.0, t.1, (t.2 y (suc d)).1 (given y (suc d) (d, omega arith, subst (λ (v : Lr1State). HasItem v.items y d) u h.2, f)))

  -- a first item behind an edge was opened there
  first_behind : (q : ℕ) (x : SymbolNumber) (p y : ℕ) → edge_at states q x ≡ Some p → Has states p y 0 → (z e n : ℕ) × Has states p z e × (next_symbol (rules_of g) z e ≡ Some (Nonterminal n)) × HasLeft (rules_of g) y n
  first_behind q x p y e h =
      let s = edge_source (slice_get states q) x p e in
      let t = target_of q s.0 x p s.1 s.2 in
      let u = one_at (slice_get states p) h.0 t.0 h.1 t.1 in
      let c = (t.2 y 0).0 (subst (λ (v : Lr1State). HasItem v.items y 0) u h.2) in
      ⊎_elim
      (λ (a : Advanced (rules_of g) s.0.items x y 0). absurd (omega (arith, a.1)))
      (λ (w : (z d n : ℕ) × InClosure (rules_of g) (Advanced (rules_of g) s.0.items x) z d × (next_symbol (rules_of g) z d ≡ Some (Nonterminal n)) × HasLeft (rules_of g) y n). (w.0, w.1, w.2, (t.0, t.1, (t.2 w.0 w.1).1 w.3), w.4, w.5))
      (opened_or_given c)

  -- a goto stands where an item's dot stands before the nonterminal
  pub goto_before : (q z e n : ℕ) → Has states q z e → next_symbol (rules_of g) z e ≡ Some (Nonterminal n) → (p : ℕ) × (edge_at states q (Nonterminal n) ≡ Some p)
  goto_before q z e n h f =
      let w = some_of (get nat_cmp h.0.gotos n) (((valid.each q h.0 h.1).gotos_stand n).1 (z, e, h.2, f)) in
      (w.0, ap (λ (o : Option Lr1State). edge_from o (Nonterminal n)) h.1 ∙ w.1)

  -- an edge leads over a symbol behind a dot
  pub edge_follows : (q : ℕ) (x : SymbolNumber) (p : ℕ) → edge_at states q x ≡ Some p → (z e : ℕ) × Has states q z e × (next_symbol (rules_of g) z e ≡ Some x)
  edge_follows q x p e =
      let s = edge_source (slice_get states q) x p e in
      let f = follows q s.0 x p s.1 s.2 in
      (f.0, f.1, (s.0, s.1, f.2), f.3)
    where
      follows : (q : ℕ) (s : Lr1State) (x : SymbolNumber) (p : ℕ) → slice_get states q ≡ Some s → edge_in s x ≡ Some p → Follows (rules_of g) s x
      follows q s (Terminal n) p at e = ((valid.each q s at).shifts_stand n).0 (is_some_from (get nat_cmp s.shifts n) p e)
      follows q s (Nonterminal n) p at e = ((valid.each q s at).gotos_stand n).0 (is_some_from (get nat_cmp s.gotos n) p e)

  -- ---- state 0
  -- the first state
  pub state_0 : (s : Lr1State) × (slice_get states 0 ≡ Some s) × Begins (rules_of g) (start_number g start) s
  state_0 = within_0 states valid.some_state valid.begins
    where
      within_0 : (xs : List Lr1State) → 0 < length xs → IfSome (slice_get xs 0) (Begins (rules_of g) (start_number g start)) → (s : Lr1State) × (slice_get xs 0 ≡ Some s) × Begins (rules_of g) (start_number g start) s
      within_0 [] l h = absurd (omega arith)
      within_0 (s ∷ xs) l h = (s, refl, h)

  -- all its items have the dot first
  pub first_at_0 : (y d : ℕ) → Has states 0 y d → d ≡ 0
  first_at_0 y d h =
      let w = state_0 in
      let u = one_at (slice_get states 0) h.0 w.0 h.1 w.1 in
      first_from (λ (q e : ℕ) (b : (e ≡ 0) × IfSome (start_number g start) (HasLeft (rules_of g) q)). b.0) ((w.2 y d).0 (subst (λ (v : Lr1State). HasItem v.items y d) u h.2))

  -- ---- where first items come from
  -- a first item behind an edge has a goto on its nonterminal
  pub goto_behind : (q : ℕ) (x : SymbolNumber) (p y : ℕ) (r : Rule) → edge_at states q x ≡ Some p → Has states p y 0 → slice_get (rules_of g) y ≡ Some r → (t : ℕ) × (edge_at states p (Nonterminal r.left) ≡ Some t)
  goto_behind q x p y r e h at =
      let w = first_behind q x p y e h in
      let n : w.2 ≡ r.left = sym (w.5).2 ∙ ap (λ (s : Rule). s.left) (one_at (slice_get (rules_of g) y) (w.5).0 r (w.5).1 at) in
      goto_before p w.0 w.1 r.left w.3 (w.4 ∙ ap (λ (i : ℕ). Some (Nonterminal i)) n)

  -- a first item of state 0 has one, or is of the start
  pub goto_at_0 : (y : ℕ) (r : Rule) → Has states 0 y 0 → slice_get (rules_of g) y ≡ Some r → ((t : ℕ) × (edge_at states 0 (Nonterminal r.left) ≡ Some t)) ⊎ IfSome (start_number g start) (HasLeft (rules_of g) y)
  goto_at_0 y r h at =
      let w = state_0 in
      let u = one_at (slice_get states 0) h.0 w.0 h.1 w.1 in
      let c = (w.2 y 0).0 (subst (λ (v : Lr1State). HasItem v.items y 0) u h.2) in
      ⊎_elim
      (λ (a : (0 ≡ 0) × IfSome (start_number g start) (HasLeft (rules_of g) y)). inr a.1)
      (λ (o : (z d n : ℕ) × InClosure (rules_of g) (λ q e. (e ≡ 0) × IfSome (start_number g start) (HasLeft (rules_of g) q)) z d × (next_symbol (rules_of g) z d ≡ Some (Nonterminal n)) × HasLeft (rules_of g) y n).
      let n : o.2 ≡ r.left = sym (o.5).2 ∙ ap (λ (s : Rule). s.left) (one_at (slice_get (rules_of g) y) (o.5).0 r (o.5).1 at) in
      inl (goto_before 0 o.0 o.1 r.left (w.0, w.1, (w.2 o.0 o.1).1 o.3) (o.4 ∙ ap (λ (i : ℕ). Some (Nonterminal i)) n)))
      (opened_or_given c)

  -- no edge leads to state 0, where the start has a production and stands on no right side
  pub never_to_0 : (n y : ℕ) → start_number g start ≡ Some n → HasLeft (rules_of g) y n → IsUnseen (rules_of g) n → (q : ℕ) (x : SymbolNumber) → edge_at states q x ≡ Some 0 → ⊥
  never_to_0 n y s l unseen q x e =
      let w = state_0 in
      let i = (w.2 y 0).1 (given y 0 (refl, subst (λ (o : Option ℕ). IfSome o (HasLeft (rules_of g) y)) (sym s) l)) in
      let b = first_behind q x 0 y e (w.0, w.1, i) in
      let m : b.2 ≡ n = sym (b.5).2 ∙ ap (λ (r : Rule). r.left) (one_at (slice_get (rules_of g) y) (b.5).0 l.0 (b.5).1 l.1) ∙ l.2 in
      unseen b.0 b.1 (b.4 ∙ ap (λ (i : ℕ). Some (Nonterminal i)) m)
