-- What is reduced at the end of a path: its symbols are on top, and the goto is there; the start's production stands alone.
use Rattle.std.proofs.Common.{◌≡◌, ◌≢◌, ◌⊎◌, ℕ, zero, suc, ◌<◌, ◌≤◌, List, [], ◌∷◌, length, take, drop, Some, IfSome, slice_get, refl, sym, ap, ◌∙◌, ⊎_elim, inl, inr, subst, arith}
use Rattle.std.specs.List.{AllByRecursion}
use Rattle.std.proofs.lemmas.List.{take_all}
use Rattle.std.proofs.lemmas.Option.{same_Some, none-some}
use Rattle.lp_repr.specs.Closure.{HasLeft, HasItem}
use Rattle.lp_repr.specs.Numbering.{rules_of}
use Rattle.lp_repr.specs.ValidTables.{start_number, IsValidTables}
use Rattle.lp_repr.specs.declared.repr.Grammar.{Grammar}
use Rattle.lp_repr.specs.declared.numbering.Rule.{Rule}
use Rattle.lp_repr.specs.declared.numbering.SymbolNumber.{SymbolNumber}
use Rattle.lp_repr.specs.declared.numbering.SymbolNumber.TheVariants.{Nonterminal}
use Rattle.lp_repr.specs.declared.lr1.Token.{Token}
use Rattle.lp_repr.specs.declared.lr1.Lr1State.{Lr1State}
use Rattle.lp_turn_laws.specs.Paths.Walks.{edge_at, IsWalk, end_of, Has, IsUnseen, IsTakenOff}
use Rattle.lp_turn_laws.proofs.Paths.Edges.{one_at, at_some, edge_follows, goto_at_0}
use Rattle.lp_turn_laws.proofs.Paths.Walks.{walk_lengths, walk_take, reach_back, goto_after}

-- what holds of each holds of the one at a place
pub all_at : {X : Type 0} (P : X → Type 0) (xs : List X) (i : ℕ) (x : X) → AllByRecursion P xs → slice_get xs i ≡ Some x → P x
all_at P [] i x h e = absurd (none-some x e)
all_at P (y ∷ xs) zero x h e = subst P (same_Some y x e) h.0
all_at P (y ∷ xs) (suc i) x h e = all_at P xs i x h.1 e

-- what stands below a length
pub at_within : {X : Type 0} (xs : List X) (i : ℕ) → i < length xs → (x : X) × (slice_get xs i ≡ Some x)
at_within [] i l = absurd (omega arith)
at_within (x ∷ xs) zero l = (x, refl)
at_within (x ∷ xs) (suc i) l = at_within xs i (omega arith)

-- a first part that is empty is of no length
none_taken : {X : Type 0} (k : ℕ) (xs : List X) → k ≤ length xs → take k xs ≡ [] → k ≡ 0
none_taken zero xs l e = refl
none_taken (suc k) [] l e = absurd (omega arith)
none_taken (suc k) (x ∷ xs) l e = cc

module _ (g : Grammar) (start : ℕ) (states : List Lr1State) (valid : IsValidTables g start states) where
  -- a listed reduction is of a complete item
  pub complete_at : (q : ℕ) (s : Lr1State) (i : ℕ) (red : List Token × ℕ) → slice_get states q ≡ Some s → slice_get s.reductions i ≡ Some red → (r : Rule) × (slice_get (rules_of g) red.1 ≡ Some r) × Has states q red.1 (length r.right)
  complete_at q s i red at e =
      let v = valid.each q s at in
      let l = (all_at _ s.reductions i red v.reductions_in_range e).0 in
      let r = at_within (rules_of g) red.1 l in
      let c = all_at _ s.reductions i red v.reduces_complete e in
      (r.0, r.1, (s, at, at_some (slice_get (rules_of g) red.1) (λ (rule : Rule). HasItem s.items red.1 (length rule.right)) r.0 r.1 c))

  -- a goto is over no nonterminal that stands on no right side
  never_over : (q n t : ℕ) → IsUnseen (rules_of g) n → edge_at states q (Nonterminal n) ≡ Some t → ⊥
  never_over q n t unseen e = let w = edge_follows g start states valid q (Nonterminal n) t e in unseen w.0 w.1 w.3

  module _ (n : ℕ) (begun : start_number g start ≡ Some n) where
    -- a first item of a walk from state 0 has a goto, or no step was made and it is of the start
    opened_or_begun : (ps : List ℕ) (xs : List SymbolNumber) (y : ℕ) (r : Rule) → IsWalk states 0 ps xs → slice_get (rules_of g) y ≡ Some r → Has states (end_of 0 ps) y 0 → ((t : ℕ) × (edge_at states (end_of 0 ps) (Nonterminal r.left) ≡ Some t)) ⊎ ((ps ≡ []) × (r.left ≡ n))
    opened_or_begun ps xs y r w at h =
        ⊎_elim
        (λ (t : (t : ℕ) × (edge_at states (end_of 0 ps) (Nonterminal r.left) ≡ Some t)). inl t)
        (λ (b : (ps ≡ []) × Has states 0 y 0). at_first b.0 (goto_at_0 g start states valid y r b.1 at))
        (goto_after g start states valid ps xs 0 y r w at h)
      where
        at_first : ps ≡ [] → ((t : ℕ) × (edge_at states 0 (Nonterminal r.left) ≡ Some t)) ⊎ IfSome (start_number g start) (HasLeft (rules_of g) y) → ((t : ℕ) × (edge_at states (end_of 0 ps) (Nonterminal r.left) ≡ Some t)) ⊎ ((ps ≡ []) × (r.left ≡ n))
        at_first none o =
            ⊎_elim
            (λ (t : (t : ℕ) × (edge_at states 0 (Nonterminal r.left) ≡ Some t)). inl (subst (λ (rs : List ℕ). (t : ℕ) × (edge_at states (end_of 0 rs) (Nonterminal r.left) ≡ Some t)) (sym none) t))
            (λ (b : IfSome (start_number g start) (HasLeft (rules_of g) y)).
            let l = at_some (start_number g start) (HasLeft (rules_of g) y) n begun b in
            inr (none, ap (λ (s : Rule). s.left) (one_at (slice_get (rules_of g) y) r l.0 at l.1) ∙ l.2))
            o

    -- productions of other starts never come
    pub only_this_start : (ps : List ℕ) (xs : List SymbolNumber) (y d : ℕ) (r : Rule) → IsWalk states 0 ps xs → Has states (end_of 0 ps) y d → slice_get (rules_of g) y ≡ Some r → IsUnseen (rules_of g) r.left → (d ≡ length xs) × (r.left ≡ n)
    only_this_start ps xs y d r w h at unseen =
        let b = reach_back g start states valid ps xs y d w h in
        let l = walk_lengths states 0 ps xs w in
        ⊎_elim
        (λ (t : (t : ℕ) × (edge_at states (end_of 0 (take b.before ps)) (Nonterminal r.left) ≡ Some t)). absurd (never_over (end_of 0 (take b.before ps)) r.left t.0 unseen t.1))
        (λ (o : (take b.before ps ≡ []) × (r.left ≡ n)).
        let k : b.before ≡ 0 = none_taken b.before ps (omega (arith, l, b.count)) o.0 in
        (omega (arith, k, b.count), o.1))
        (opened_or_begun (take b.before ps) (take b.before xs) y r (walk_take states b.before 0 ps xs w) at b.first)

    -- a complete item of another production than the start's can be taken off
    pub taken_off : (ps : List ℕ) (xs : List SymbolNumber) (y : ℕ) (r : Rule) → IsWalk states 0 ps xs → Has states (end_of 0 ps) y (length r.right) → slice_get (rules_of g) y ≡ Some r → r.left ≢ n → IsTakenOff states ps xs r
    taken_off ps xs y r w h at other =
        let b = reach_back g start states valid ps xs y (length r.right) w h in
        let same : drop b.before xs ≡ r.right = b.same r at ∙ take_all (length r.right) r.right (omega arith) in
        ⊎_elim
        (λ (t : (t : ℕ) × (edge_at states (end_of 0 (take b.before ps)) (Nonterminal r.left) ≡ Some t)). record { before = b.before; count = b.count; same = same; to = t.0; goto = t.1 })
        (λ (o : (take b.before ps ≡ []) × (r.left ≡ n)). absurd (other o.1))
        (opened_or_begun (take b.before ps) (take b.before xs) y r (walk_take states b.before 0 ps xs w) at b.first)

    -- a complete item of the start has its symbols alone above state 0
    pub start_alone : (ps : List ℕ) (xs : List SymbolNumber) (y : ℕ) (r : Rule) → IsWalk states 0 ps xs → Has states (end_of 0 ps) y (length r.right) → slice_get (rules_of g) y ≡ Some r → IsUnseen (rules_of g) r.left → (xs ≡ r.right) × (r.left ≡ n)
    start_alone ps xs y r w h at unseen =
        let o = only_this_start ps xs y (length r.right) r w h at unseen in
        let b = reach_back g start states valid ps xs y (length r.right) w h in
        let k : b.before ≡ 0 = omega (arith, b.count, o.0) in
        (subst (λ (i : ℕ). drop i xs ≡ r.right) k (b.same r at ∙ take_all (length r.right) r.right (omega arith)), o.1)
