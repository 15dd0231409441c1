-- Valid tables of a valid grammar have two states or more: the symbol of the start's production leads from the first one to another.
use Rattle.std.proofs.Common.{◌≡◌, ℕ, ◌<◌, ◌≤◌, List, [], ◌∷◌, length, Option, Some, None, IfSome, IsSome, slice_get, refl, sym, ap, ◌∙◌, subst, arith}
use Rattle.std.specs.BTreeMap.{get}
use Rattle.std.specs.Option.{option_and_then}
use Rattle.std.specs.Ordering.{nat_cmp}
use Rattle.lp_repr.specs.Closure.{HasLeft, next_symbol}
use Rattle.lp_repr.specs.Closure.InClosure.{given}
use Rattle.lp_repr.specs.Numbering.{rules_of}
use Rattle.lp_repr.specs.ValidTables.{Begins, Follows, IsValidState, IsValidTables, start_number}
use Rattle.lp_repr.specs.declared.lr1.Lr1State.{Lr1State}
use Rattle.lp_repr.specs.declared.numbering.Rule.{Rule}
use Rattle.lp_repr.specs.declared.numbering.SymbolNumber.{SymbolNumber}
use Rattle.lp_repr.specs.declared.numbering.SymbolNumber.TheVariants.{Terminal, Nonterminal}
use Rattle.lp_repr.specs.declared.repr.Grammar.{Grammar}
use Rattle.lp_valid.specs.ValidGrammar.{IsValidGrammar}
use Rattle.lp_turn_laws.specs.Paths.Walks.{edge_at, edge_from}
use Rattle.lp_turn_laws.proofs.Paths.Crossing.{no_edge_to_0}
use Rattle.lp_turn_laws.proofs.Paths.Starts.{is_start_of, start_has, start_number_is}

some_there : {X : Type 0} (o : Option X) → IsSome o → (x : X) × (o ≡ Some x)
some_there None h = cc
some_there (Some x) h = (x, refl)

first_there : {X : Type 0} (xs : List X) → 0 < length xs → (x : X) × (slice_get xs 0 ≡ Some x)
first_there [] h = absurd (omega (arith, h))
first_there (x ∷ xs) h = (x, refl)

module _ (g : Grammar) (valid : IsValidGrammar g) (start : ℕ) (states : List Lr1State) (tabled : IsValidTables g start states) (l : start < length g.start_nonterminals.entries) where
  -- an edge of a state leads to one that is there
  leads : (s : Lr1State) → IsValidState g states s → (x : SymbolNumber) → Follows (rules_of g) s x → slice_get states 0 ≡ Some s → (to : ℕ) × (edge_at states 0 x ≡ Some to) × (to < length states)
  leads s is (Terminal n) follows at =
      let t = some_there (get nat_cmp s.shifts n) ((is.shifts_stand n).1 follows) in
      (t.0, ap (λ (o : Option Lr1State). edge_from o (Terminal n)) at ∙ t.1, (is.shifts_in_range n t.0 t.1).1)
  leads s is (Nonterminal n) follows at =
      let t = some_there (get nat_cmp s.gotos n) ((is.gotos_stand n).1 follows) in
      (t.0, ap (λ (o : Option Lr1State). edge_from o (Nonterminal n)) at ∙ t.1, (is.gotos_in_range n t.0 t.1).1)

  -- the symbol of a production of the start leads on from the first state
  leads_on : (n p : ℕ) (r : Rule) (x : SymbolNumber) (s : Lr1State) → start_number g start ≡ Some n → slice_get (rules_of g) p ≡ Some r → r.left ≡ n → slice_get r.right 0 ≡ Some x → slice_get states 0 ≡ Some s → 2 ≤ length states
  leads_on n p r x s begun at left first there =
      let next : next_symbol (rules_of g) p 0 ≡ Some x = ap (option_and_then (λ (q : Rule). slice_get q.right 0)) at ∙ first in
      let begins : Begins (rules_of g) (start_number g start) s = subst (λ (o : Option Lr1State). IfSome o (Begins (rules_of g) (start_number g start))) there tabled.begins in
      let own : IfSome (start_number g start) (HasLeft (rules_of g) p) = subst (λ (o : Option ℕ). IfSome o (HasLeft (rules_of g) p)) (sym begun) (r, at, left) in
      let edge = leads s (tabled.each 0 s there) x (p, 0, (begins p 0).1 (given p 0 (refl, own)), next) there in
      let never : edge.0 ≡ 0 → ⊥ = λ e. no_edge_to_0 g valid start states tabled n begun 0 x (edge.1 ∙ ap Some e) in
      omega (arith, edge.2, never)

  production_leads : (n p : ℕ) (r : Rule) → start_number g start ≡ Some n → slice_get (rules_of g) p ≡ Some r → r.left ≡ n → 2 ≤ length states
  production_leads n p r begun at left =
      let one : length r.right ≡ 1 = (is_start_of g valid start n begun).single p r at left in
      let x = first_there r.right (omega (arith, one)) in
      let s = first_there states tabled.some_state in
      leads_on n p r x.0 s.0 begun at left x.1 s.1

  has_leads : (n : ℕ) → start_number g start ≡ Some n → 2 ≤ length states
  has_leads n begun = (let has = start_has g valid start n begun in production_leads n has.0 has.1.0 begun has.1.1 has.1.2)

  pub two_states : 2 ≤ length states
  two_states = (let n = start_number_is g valid start l in has_leads n.0 n.1)
