-- What a reduction above a state takes off of it: nothing, or all its fixed slots and none below its slots. And state 0 stands at the bottom alone.
use Rattle.std.proofs.Common.{◌≡◌, ◌⊎◌, ℕ, zero, suc, ◌+◌, ◌<◌, ◌≤◌, List, [], ◌∷◌, ◌++◌, length, take, drop, Some, slice_get, refl, sym, ap, ◌∙◌, ⊎_elim, inl, inr, subst, arith}
use Rattle.std.proofs.lemmas.Option.{slice_get_within, same_Some, none-some}
use Rattle.std.proofs.lemmas.List.{length-drop}
use Rattle.lp_driver.specs.DriverState.{last_of}
use Rattle.lp_repr.specs.Closure.{HasItem}
use Rattle.lp_repr.specs.Numbering.{rules_of}
use Rattle.lp_repr.specs.StateParts.{max_prefix_of, will_pop_of}
use Rattle.lp_repr.specs.ValidTables.{start_number, IsValidTables}
use Rattle.lp_repr.specs.declared.repr.Grammar.{Grammar}
use Rattle.lp_repr.specs.declared.numbering.Rule.{Rule}
use Rattle.lp_repr.specs.declared.numbering.SymbolNumber.{SymbolNumber}
use Rattle.lp_repr.specs.declared.lr1.Lr1State.{Lr1State}
use Rattle.lp_valid.specs.ValidGrammar.{IsValidGrammar}
use Rattle.lp_turn_laws.specs.Paths.Walks.{edge_at, IsWalk, end_of, Has, IsPath, ReachesTo, ReachesPast}
use Rattle.lp_turn_laws.proofs.Paths.Edges.{one_at, never_to_0}
use Rattle.lp_turn_laws.proofs.Paths.Slots.{greatest_dot, least_dot}
use Rattle.lp_turn_laws.proofs.Paths.Stacks.{path_from, path_length}
use Rattle.lp_turn_laws.proofs.Paths.Starts.{start_has, is_start_of}
use Rattle.lp_turn_laws.proofs.Paths.Walks.{reaches}

-- an item reaches back past the first state of a walk over so many symbols: all fixed slots of that state and no more than its slots
pub record Crosses (g : Grammar) (s : Lr1State) (xs : List SymbolNumber) (d : ℕ) : Type 0 where
  pub taken : ℕ
  pub count : taken + length xs ≡ d
  pub some : 0 < taken
  pub fixed : length (will_pop_of g s.items) ≤ taken
  pub within : taken ≤ length (max_prefix_of g s.items)

module _ (g : Grammar) (grammar : IsValidGrammar g) (start : ℕ) (states : List Lr1State) (valid : IsValidTables g start states) where
  -- an item at the end of a walk from a state reaches back to a state of the walk, or crosses its first one
  pub crosses : (q : ℕ) (s : Lr1State) (ps : List ℕ) (xs : List SymbolNumber) (y d : ℕ) → slice_get states q ≡ Some s → IsWalk states q ps xs → Has states (end_of q ps) y d → ReachesTo (rules_of g) states q ps xs y d ⊎ Crosses g s xs d
  crosses q s ps xs y d at w h =
      ⊎_elim (λ (a : ReachesTo (rules_of g) states q ps xs y d). inl a) (λ (a : ReachesPast (rules_of g) states q xs y d). past a.dot a.count a.has a.same) (reaches g start states valid q ps xs y d w h)
    where
      past : (e : ℕ) → e + length xs ≡ d → Has states q y e → ((r : Rule) → slice_get (rules_of g) y ≡ Some r → take d r.right ≡ take e r.right ++ xs) → ReachesTo (rules_of g) states q ps xs y d ⊎ Crosses g s xs d
      past zero c k same = inl (record { before = 0; count = omega arith; first = k; same = λ r at. sym (same r at) })
      past (suc e) c k same =
          let i = subst (λ (v : Lr1State). HasItem v.items y (suc e)) (one_at (slice_get states q) k.0 s k.1 at) k.2 in
          inr (record {
            taken = suc e;
            count = c;
            some = omega arith;
            fixed = ((least_dot g grammar start states valid q s at).bound y (suc e) i (omega arith)).1;
            within = (greatest_dot g grammar start states valid q s at).bound y (suc e) i;
          })

  -- a reduction leaves a frame's state on the stack, or takes off all its fixed slots and none below its slots: k is the place of that state, and h the place of the one that is left
  pub path_crosses : (stack : List ℕ) (xs : List SymbolNumber) (k q : ℕ) (s : Lr1State) (r y d h : ℕ) → IsPath states stack xs → slice_get stack k ≡ Some q → slice_get states q ≡ Some s → last_of stack ≡ Some r → Has states r y d → h + d ≡ length xs → (k ≤ h) ⊎ ((h < k) × (h + length (will_pop_of g s.items) ≤ k) × (k ≤ h + length (max_prefix_of g s.items)))
  path_crosses stack xs k q s r y d h path here at top has count =
      let w = path_from states stack xs k q path here in
      let l = slice_get_within stack k q here in
      let m = path_length states stack xs path in
      let n = length-drop k xs in
      let e = same_Some r (end_of q (drop (suc k) stack)) (sym top ∙ w.1) in
      ⊎_elim
      (λ (a : ReachesTo (rules_of g) states q (drop (suc k) stack) (drop k xs) y d). (let c = a.count in inl (omega arith)))
      (λ (a : Crosses g s (drop k xs) d). (let c = a.count in let o = a.some in let f = a.fixed in let i = a.within in inr (omega arith, omega arith, omega arith)))
      (crosses q s (drop (suc k) stack) (drop k xs) y d at w.0 (subst (λ (i : ℕ). Has states i y d) e has))

  -- ---- state 0
  module _ (n : ℕ) (begun : start_number g start ≡ Some n) where
    -- no edge leads to it
    pub no_edge_to_0 : (q : ℕ) (x : SymbolNumber) → edge_at states q x ≡ Some 0 → ⊥
    no_edge_to_0 q x e =
        let h = start_has g grammar start n begun in
        never_to_0 g start states valid n h.0 begun h.1 (is_start_of g grammar start n begun).unseen q x e

    -- no walk comes to it
    walk_never_0 : (q : ℕ) (ps : List ℕ) (xs : List SymbolNumber) (i : ℕ) → IsWalk states q ps xs → slice_get ps i ≡ Some 0 → ⊥
    walk_never_0 q [] xs i w e = none-some 0 e
    walk_never_0 q (p ∷ ps) [] i w e = absurd w
    walk_never_0 q (p ∷ ps) (x ∷ xs) zero w e = no_edge_to_0 q x (w.0 ∙ e)
    walk_never_0 q (p ∷ ps) (x ∷ xs) (suc i) w e = walk_never_0 p ps xs i w.1 e

    -- it stands at the bottom of a path alone
    pub alone_at_0 : (stack : List ℕ) (xs : List SymbolNumber) (i : ℕ) → IsPath states stack xs → slice_get stack i ≡ Some 0 → i ≡ 0
    alone_at_0 stack xs i path e = at_bottom i (ap (λ (ss : List ℕ). slice_get ss i) (sym path.begins) ∙ e)
      where
        at_bottom : (i : ℕ) → slice_get (0 ∷ path.rest) i ≡ Some 0 → i ≡ 0
        at_bottom zero e = refl
        at_bottom (suc i) e = absurd (walk_never_0 0 path.rest xs i path.walks e)
