-- Walks through valid tables: their parts, and how items reach back along them.
use Rattle.std.proofs.Common.{◌≡◌, ◌⊎◌, ℕ, zero, suc, ◌+◌, List, [], ◌∷◌, ◌++◌, length, take, drop, Some, slice_get, refl, sym, ap, ◌∙◌, ⊎_elim, inl, inr, subst, arith, append_assoc, append-nil}
use Rattle.std.proofs.lemmas.Option.{same_Some, none-some}
use Rattle.lp_repr.specs.Closure.{next_symbol}
use Rattle.lp_repr.specs.Numbering.{rules_of}
use Rattle.lp_repr.specs.ValidTables.{IsValidTables}
use Rattle.lp_repr.specs.declared.repr.Grammar.{Grammar}
use Rattle.lp_repr.specs.declared.numbering.Rule.{Rule}
use Rattle.lp_repr.specs.declared.numbering.SymbolNumber.{SymbolNumber}
use Rattle.lp_repr.specs.declared.numbering.SymbolNumber.TheVariants.{Nonterminal}
use Rattle.lp_repr.specs.declared.lr1.Lr1State.{Lr1State}
use Rattle.lp_turn_laws.specs.Paths.Walks.{edge_at, IsWalk, end_of, Has, ReachesTo, ReachesPast}
use Rattle.lp_turn_laws.proofs.Paths.Edges.{next_from, one_at, back_over, first_at_0, goto_behind}

-- ---- parts of walks
-- a walk has a symbol for each step
pub walk_lengths : (states : List Lr1State) (q : ℕ) (ps : List ℕ) (xs : List SymbolNumber) → IsWalk states q ps xs → length ps ≡ length xs
walk_lengths states q [] [] w = refl
walk_lengths states q [] (x ∷ xs) w = absurd w
walk_lengths states q (p ∷ ps) [] w = absurd w
walk_lengths states q (p ∷ ps) (x ∷ xs) w = ap suc (walk_lengths states p ps xs w.1)

-- two walks, the second from the end of the first
pub walk_append : (states : List Lr1State) (q : ℕ) (ps rs : List ℕ) (xs ys : List SymbolNumber) → IsWalk states q ps xs → IsWalk states (end_of q ps) rs ys → IsWalk states q (ps ++ rs) (xs ++ ys)
walk_append states q [] rs [] ys w v = v
walk_append states q [] rs (x ∷ xs) ys w v = absurd w
walk_append states q (p ∷ ps) rs [] ys w v = absurd w
walk_append states q (p ∷ ps) rs (x ∷ xs) ys w v = (w.0, walk_append states p ps rs xs ys w.1 v)

-- the first steps of a walk
pub walk_take : (states : List Lr1State) (k q : ℕ) (ps : List ℕ) (xs : List SymbolNumber) → IsWalk states q ps xs → IsWalk states q (take k ps) (take k xs)
walk_take states zero q ps xs w = tt
walk_take states (suc k) q [] [] w = tt
walk_take states (suc k) q [] (x ∷ xs) w = absurd w
walk_take states (suc k) q (p ∷ ps) [] w = absurd w
walk_take states (suc k) q (p ∷ ps) (x ∷ xs) w = (w.0, walk_take states k p ps xs w.1)

-- the other steps
pub walk_drop : (states : List Lr1State) (k q : ℕ) (ps : List ℕ) (xs : List SymbolNumber) → IsWalk states q ps xs → IsWalk states (end_of q (take k ps)) (drop k ps) (drop k xs)
walk_drop states zero q ps xs w = w
walk_drop states (suc k) q [] [] w = tt
walk_drop states (suc k) q [] (x ∷ xs) w = absurd w
walk_drop states (suc k) q (p ∷ ps) [] w = absurd w
walk_drop states (suc k) q (p ∷ ps) (x ∷ xs) w = walk_drop states k p ps xs w.1

-- the end of two walks
pub end_append : (q : ℕ) (ps rs : List ℕ) → end_of q (ps ++ rs) ≡ end_of (end_of q ps) rs
end_append q [] rs = refl
end_append q (p ∷ ps) rs = end_append p ps rs

-- ---- lists
-- one element more
take_next : {X : Type 0} (xs : List X) (e : ℕ) (x : X) → slice_get xs e ≡ Some x → take (suc e) xs ≡ take e xs ++ x ∷ []
take_next [] e x h = absurd (none-some x h)
take_next (y ∷ xs) zero x h = ap (λ z. z ∷ []) (same_Some y x h)
take_next (y ∷ xs) (suc e) x h = ap (λ zs. y ∷ zs) (take_next xs e x h)

module _ (g : Grammar) (start : ℕ) (states : List Lr1State) (valid : IsValidTables g start states) where
  -- the symbol of an edge stands before the dot
  dot_moved : (y e : ℕ) (x : SymbolNumber) (r : Rule) → next_symbol (rules_of g) y e ≡ Some x → slice_get (rules_of g) y ≡ Some r → take (suc e) r.right ≡ take e r.right ++ x ∷ []
  dot_moved y e x r n at =
      let w = next_from (slice_get (rules_of g) y) e x n in
      let same = one_at (slice_get (rules_of g) y) w.0 r w.1 at in
      take_next r.right e x (subst (λ (s : Rule). slice_get s.right e ≡ Some x) same w.2)

  -- one step more in front
  past_step : (q : ℕ) (x : SymbolNumber) (p : ℕ) (ps : List ℕ) (xs : List SymbolNumber) (y d e : ℕ) → edge_at states q x ≡ Some p → e + length xs ≡ d → Has states p y e → ((r : Rule) → slice_get (rules_of g) y ≡ Some r → take d r.right ≡ take e r.right ++ xs) → ReachesTo (rules_of g) states q (p ∷ ps) (x ∷ xs) y d ⊎ ReachesPast (rules_of g) states q (x ∷ xs) y d
  past_step q x p ps xs y d zero e c h s =
      inl (record { before = 1; count = omega arith; first = h; same = λ r at. sym (s r at) })
  past_step q x p ps xs y d (suc i) e c h s =
      let b = back_over g start states valid q x p y i e h in
      inr (record {
        dot = i;
        count = omega arith;
        has = b.0;
        same = λ r at. s r at ∙ ap (λ (zs : List SymbolNumber). zs ++ xs) (dot_moved y i x r b.1 at) ∙ append_assoc (take i r.right) (x ∷ []) xs;
      })

  -- an item at the end of a walk reaches back
  pub reaches : (q : ℕ) (ps : List ℕ) (xs : List SymbolNumber) (y d : ℕ) → IsWalk states q ps xs → Has states (end_of q ps) y d → ReachesTo (rules_of g) states q ps xs y d ⊎ ReachesPast (rules_of g) states q xs y d
  reaches q [] [] y d w h =
      inr (record { dot = d; count = omega arith; has = h; same = λ r at. sym (append-nil (take d r.right)) })
  reaches q [] (x ∷ xs) y d w h = absurd w
  reaches q (p ∷ ps) [] y d w h = absurd w
  reaches q (p ∷ ps) (x ∷ xs) y d w h =
      ⊎_elim
      (λ (a : ReachesTo (rules_of g) states p ps xs y d). inl (record { before = suc a.before; count = omega (arith, a.count); first = a.first; same = a.same }))
      (λ (a : ReachesPast (rules_of g) states p xs y d). past_step q x p ps xs y d a.dot w.0 a.count a.has a.same)
      (reaches p ps xs y d w.1 h)

  -- on a walk from state 0 it stays within
  pub reach_back : (ps : List ℕ) (xs : List SymbolNumber) (y d : ℕ) → IsWalk states 0 ps xs → Has states (end_of 0 ps) y d → ReachesTo (rules_of g) states 0 ps xs y d
  reach_back ps xs y d w h = ⊎_elim (λ (a : ReachesTo (rules_of g) states 0 ps xs y d). a) (whole ps xs y d) (reaches 0 ps xs y d w h)
    where
      whole : (ps : List ℕ) (xs : List SymbolNumber) (y d : ℕ) → ReachesPast (rules_of g) states 0 xs y d → ReachesTo (rules_of g) states 0 ps xs y d
      whole ps xs y d a =
          let z = first_at_0 g start states valid y a.dot a.has in
          record {
            before = 0;
            count = omega (arith, z, a.count);
            first = subst (Has states 0 y) z a.has;
            same = λ r at. sym (a.same r at ∙ ap (λ (i : ℕ). take i r.right ++ xs) z);
          }

  -- ---- gotos
  -- a first item at the end of a walk has a goto, or no step was made and it is of the start
  pub goto_after : (ps : List ℕ) (xs : List SymbolNumber) (q y : ℕ) (r : Rule) → IsWalk states q ps xs → slice_get (rules_of g) y ≡ Some r → Has states (end_of q ps) y 0 → ((t : ℕ) × (edge_at states (end_of q ps) (Nonterminal r.left) ≡ Some t)) ⊎ ((ps ≡ []) × Has states q y 0)
  goto_after [] [] q y r w at h = inr (refl, h)
  goto_after [] (x ∷ xs) q y r w at h = absurd w
  goto_after (p ∷ ps) [] q y r w at h = absurd w
  goto_after (p ∷ ps) (x ∷ xs) q y r w at h =
      ⊎_elim (λ (t : (t : ℕ) × (edge_at states (end_of p ps) (Nonterminal r.left) ≡ Some t)). inl t) (λ (b : (ps ≡ []) × Has states p y 0). inl (behind q x p ps y r w.0 at b.0 b.1)) (goto_after ps xs p y r w.1 at h)
    where
      behind : (q : ℕ) (x : SymbolNumber) (p : ℕ) (ps : List ℕ) (y : ℕ) (r : Rule) → edge_at states q x ≡ Some p → slice_get (rules_of g) y ≡ Some r → ps ≡ [] → Has states p y 0 → (t : ℕ) × (edge_at states (end_of p ps) (Nonterminal r.left) ≡ Some t)
      behind q x p ps y r e at none h =
          subst (λ (rs : List ℕ). (t : ℕ) × (edge_at states (end_of p rs) (Nonterminal r.left) ≡ Some t)) (sym none) (goto_behind g start states valid q x p y r e h at)
