-- Items of valid tables, back over an edge and at the top of a path.
use Rattle.std.proofs.Common.{◌≡◌, ◌≢◌, ◌⊎◌, ℕ, zero, suc, ◌+◌, ◌-◌, ◌<◌, ◌≤◌, Bool, true, false, List, [], ◌∷◌, length, Some, slice_get, refl, sym, ap, ◌∙◌, ⊎_elim, inl, inr, subst, arith}
use Rattle.std.proofs.lemmas.List.{nil_from_length}
use Rattle.std.proofs.lemmas.Option.{same_Some}
use Rattle.lp_repr.specs.Closure.{next_symbol, HasLeft}
use Rattle.lp_repr.specs.Numbering.{rules_of}
use Rattle.lp_repr.specs.ValidTables.{IsItemInRange, start_number}
use Rattle.lp_repr.specs.declared.lr1.Lr1State.{Lr1State}
use Rattle.lp_repr.specs.declared.lr1.Token.{Token}
use Rattle.lp_repr.specs.declared.numbering.Rule.{Rule}
use Rattle.lp_repr.specs.declared.numbering.SymbolNumber.{SymbolNumber}
use Rattle.lp_repr.specs.declared.numbering.SymbolNumber.TheVariants.{Nonterminal}
use Rattle.lp_repr.specs.declared.repr.Grammar.{Grammar}
use Rattle.lp_driver.specs.DriverState.{last_of}
use Rattle.lp_machine.specs.Lookup.{act_at}
use Rattle.lp_machine.specs.Tables.{Tables}
use Rattle.lp_machine.specs.declared.lookup.Act.TheVariants.{ReduceBy}
use Rattle.lp_machine.specs.declared.lookup.Rule as machine
use Rattle.lp_turn_laws.specs.Paths.Over.{IsOver}
use Rattle.lp_turn_laws.specs.Paths.Walks.{edge_at, end_of, Has, IsPath, IsUnseen, IsWalk}
use Rattle.lp_turn_laws.proofs.Paths.Acts.{reduces_at}
use Rattle.lp_turn_laws.proofs.Paths.Edges.{one_at, at_some, back_over, forward_over, edge_follows, goto_at_0, state_0}
use Rattle.lp_turn_laws.proofs.Paths.MachineRules.{Agree, agree}
use Rattle.lp_turn_laws.proofs.Paths.Over.{bottom}
use Rattle.lp_turn_laws.proofs.Paths.Reductions.{all_at}
use Rattle.lp_turn_laws.proofs.Paths.Stacks.{path_length, path_top, path_only_start}
use Rattle.lp_turn_laws.proofs.Paths.Starts.{is_start_of}
use Rattle.lp_turn_laws.proofs.Paths.Walks.{goto_after}

-- a list of one element that begins so
alone : (rest : List ℕ) (n : ℕ) → length (n ∷ rest) ≡ 1 → n ∷ rest ≡ n ∷ []
alone rest n l = ap (λ (ps : List ℕ). n ∷ ps) (nil_from_length rest (omega (arith, l)))

-- the end of a walk that makes a step is entered
entered_from : (states : List Lr1State) (q : ℕ) (ps : List ℕ) (xs : List SymbolNumber) → IsWalk states q ps xs → (ps ≡ []) ⊎ ((r : ℕ) × (x : SymbolNumber) × (edge_at states r x ≡ Some (end_of q ps)))
entered_from states q [] xs w = inl refl
entered_from states q (p ∷ ps) [] w = absurd w
entered_from states q (p ∷ ps) (x ∷ xs) w =
    ⊎_elim
    (λ (none : ps ≡ []). inr (q, x, w.0 ∙ ap (λ (rs : List ℕ). Some (end_of p rs)) (sym none)))
    (λ (e : (r : ℕ) × (y : SymbolNumber) × (edge_at states r y ≡ Some (end_of p ps))). inr e)
    (entered_from states p ps xs w.1)

-- the top state of a path is entered, but for state 0
pub top_entered : (states : List Lr1State) (stack : List ℕ) (xs : List SymbolNumber) (q : ℕ) → IsPath states stack xs → last_of stack ≡ Some q → (q ≡ 0) ⊎ ((r : ℕ) × (x : SymbolNumber) × (edge_at states r x ≡ Some q))
top_entered states stack xs q path top =
    let same = same_Some (end_of 0 path.rest) q (sym (path_top states stack xs path) ∙ top) in
    ⊎_elim
    (λ (none : path.rest ≡ []). inl (sym same ∙ ap (end_of 0) none))
    (λ (e : (r : ℕ) × (x : SymbolNumber) × (edge_at states r x ≡ Some (end_of 0 path.rest))). inr (e.0, e.1, e.2 ∙ ap Some same))
    (entered_from states 0 path.rest xs path.walks)

module _ {g : Grammar} {start : ℕ} {states : List Lr1State} {t : Tables} (over : IsOver g start states t) where
  -- ---- S3, S4: over an edge
  -- an item behind an edge that is not first stands before it, with the dot back over the edge's symbol
  pub item_back : (q : ℕ) (x : SymbolNumber) (p y d : ℕ) → edge_at states q x ≡ Some p → Has states p y d → 0 < d → (e : ℕ) × (d ≡ e + 1) × Has states q y e × (next_symbol (rules_of g) y e ≡ Some x)
  item_back q x p y zero edge h l = absurd (omega arith)
  item_back q x p y (suc e) edge h l =
      let b = back_over g start states over.tables q x p y e edge h in
      (e, omega arith, b.0, b.1)

  -- the target of an edge has an item that is not first
  pub item_moved : (q : ℕ) (x : SymbolNumber) (p : ℕ) → edge_at states q x ≡ Some p → (y d : ℕ) × Has states p y d × (0 < d)
  item_moved q x p edge =
      let f = edge_follows g start states over.tables q x p edge in
      (f.0, suc f.1, forward_over g start states over.tables q x p f.0 f.1 edge f.2 f.3, omega arith)

  -- an edge leads from a state to a state
  pub edge_states : (q : ℕ) (x : SymbolNumber) (p : ℕ) → edge_at states q x ≡ Some p → (s : Lr1State) × (u : Lr1State) × (slice_get states q ≡ Some s) × (slice_get states p ≡ Some u)
  edge_states q x p edge =
      let f = edge_follows g start states over.tables q x p edge in
      let h = forward_over g start states over.tables q x p f.0 f.1 edge f.2 f.3 in
      ((f.2).0, h.0, (f.2).1, h.1)

  -- the top state of a path is there
  pub top_state : (stack : List ℕ) (xs : List SymbolNumber) (q : ℕ) → IsPath states stack xs → last_of stack ≡ Some q → (s : Lr1State) × (slice_get states q ≡ Some s)
  top_state stack xs q path top =
      ⊎_elim
      (λ (first : q ≡ 0). let w = state_0 g start states over.tables in (w.0, ap (slice_get states) first ∙ w.1))
      (λ (e : (r : ℕ) × (x : SymbolNumber) × (edge_at states r x ≡ Some q)). let w = edge_states e.0 e.1 q e.2 in (w.1, w.3))
      (top_entered states stack xs q path top)

  -- an item's dot is within its production
  pub dot_in_range : (q y d : ℕ) → Has states q y d → (r : Rule) × (slice_get (rules_of g) y ≡ Some r) × (d ≤ length r.right)
  dot_in_range q y d h =
      let i = h.2 in
      let w = all_at (IsItemInRange (rules_of g)) (h.0).items i.0 i.1 ((over.tables).each q h.0 h.1).items_in_range i.2 in
      (w.0, subst (λ (k : ℕ). slice_get (rules_of g) k ≡ Some w.0) i.3 w.1, omega (arith, w.2, i.4))

  -- ---- S1: state 0
  -- where it is on top the stack has no other
  pub first_alone : (stack : List ℕ) (xs : List SymbolNumber) → IsPath states stack xs → last_of stack ≡ Some 0 → (stack ≡ 0 ∷ []) × (xs ≡ [])
  first_alone stack xs path top =
      let k = bottom over stack xs (length stack - 1) path top in
      let l = path_length states stack xs path in
      let n : length (0 ∷ path.rest) ≡ 1 = sym (ap length path.begins) ∙ (let m : length stack ≡ 1 = omega arith in m) in
      (path.begins ∙ alone path.rest 0 n, nil_from_length xs (omega arith))

  -- ---- S10: first items at the top of a path
  -- one has a goto on its nonterminal, or it is the start's in state 0
  pub first_leads : (stack : List ℕ) (xs : List SymbolNumber) (q y : ℕ) (r : Rule) → IsPath states stack xs → last_of stack ≡ Some q → slice_get (rules_of g) y ≡ Some r → Has states q y 0 → ((to : ℕ) × (edge_at states q (Nonterminal r.left) ≡ Some to)) ⊎ ((q ≡ 0) × (r.left ≡ over.number))
  first_leads stack xs q y r path top at h =
      let same = same_Some (end_of 0 path.rest) q (sym (path_top states stack xs path) ∙ top) in
      ⊎_elim
      (λ (w : (to : ℕ) × (edge_at states (end_of 0 path.rest) (Nonterminal r.left) ≡ Some to)). inl (subst (λ (i : ℕ). (to : ℕ) × (edge_at states i (Nonterminal r.left) ≡ Some to)) same w))
      (λ (b : (path.rest ≡ []) × Has states 0 y 0). at_first (sym same ∙ ap (end_of 0) b.0) b.1)
      (goto_after g start states over.tables path.rest xs 0 y r path.walks at (subst (λ (i : ℕ). Has states i y 0) (sym same) h))
    where
      at_first : q ≡ 0 → Has states 0 y 0 → ((to : ℕ) × (edge_at states q (Nonterminal r.left) ≡ Some to)) ⊎ ((q ≡ 0) × (r.left ≡ over.number))
      at_first zero_q here =
          ⊎_elim
          (λ (w : (to : ℕ) × (edge_at states 0 (Nonterminal r.left) ≡ Some to)). inl (subst (λ (i : ℕ). (to : ℕ) × (edge_at states i (Nonterminal r.left) ≡ Some to)) (sym zero_q) w))
          (λ b.
          let l = at_some (start_number g start) (HasLeft (rules_of g) y) over.number over.begun b in
          inr (zero_q, ap (λ (s : Rule). s.left) (one_at (slice_get (rules_of g) y) r l.0 at l.1) ∙ l.2))
          (goto_at_0 g start states over.tables y r here at)

  -- but for state 0 it has one
  pub first_goto : (stack : List ℕ) (xs : List SymbolNumber) (q y : ℕ) (r : Rule) → IsPath states stack xs → last_of stack ≡ Some q → slice_get (rules_of g) y ≡ Some r → Has states q y 0 → q ≢ 0 → (to : ℕ) × (edge_at states q (Nonterminal r.left) ≡ Some to)
  first_goto stack xs q y r path top at h other =
      ⊎_elim (λ (w : (to : ℕ) × (edge_at states q (Nonterminal r.left) ≡ Some to)). w) (λ (b : (q ≡ 0) × (r.left ≡ over.number)). absurd (other b.0)) (first_leads stack xs q y r path top at h)

  -- ---- S11: starts
  -- no state has a goto on a nonterminal that stands on no right side
  pub never_unseen : (q n to : ℕ) → IsUnseen (rules_of g) n → edge_at states q (Nonterminal n) ≡ Some to → ⊥
  never_unseen q n to unseen e = let w = edge_follows g start states over.tables q (Nonterminal n) to e in unseen w.0 w.1 w.3

  -- an item of a start at the top of a path is of this start: the first one of state 0, or with the dot last above its one symbol
  pub start_item : (stack : List ℕ) (xs : List SymbolNumber) (q y d : ℕ) (r : Rule) → IsPath states stack xs → last_of stack ≡ Some q → Has states q y d → slice_get (rules_of g) y ≡ Some r → IsUnseen (rules_of g) r.left → (r.left ≡ over.number) × (d ≡ length xs) × (length r.right ≡ 1) × (d ≤ 1)
  start_item stack xs q y d r path top h at unseen =
      let w = path_only_start g start states over.tables over.number over.begun stack xs q y d r path top h at unseen in
      let one = (is_start_of g over.grammar start over.number over.begun).single y r at w.1 in
      let i = dot_in_range q y d h in
      let l : d ≤ length r.right = subst (λ (s : Rule). d ≤ length s.right) (one_at (slice_get (rules_of g) y) i.0 r i.1 at) i.2 in
      (w.1, w.0, one, omega arith)

  -- ---- S12: reductions
  -- what a state reduces is an item with its dot behind all symbols of the machine's rule
  pub reduces_item : (q : ℕ) (token : Token) (y : ℕ) (rule : machine.Rule) → act_at states q token ≡ ReduceBy y → t.rule y ≡ Some rule → Has states q y rule.length
  reduces_item q token y rule act known =
      let w = reduces_at g start states over.tables q token y act in
      let a = agree g over.grammar y rule (sym ((over.known).rule y) ∙ known) in
      let l : rule.length ≡ length (w.0).right = a.length_is ∙ ap (λ (r : Rule). length r.right) (one_at (slice_get (rules_of g) y) a.rule w.0 a.at w.1) in
      subst (Has states q y) (sym l) w.2

  -- ---- the same by the machine's rules
  -- the rule of the tables that has its symbols
  rule_of_tables : (y : ℕ) (rule : machine.Rule) → t.rule y ≡ Some rule → Agree g y rule
  rule_of_tables y rule known = agree g over.grammar y rule (sym ((over.known).rule y) ∙ known)

  -- S10: a first item at the top of a path is the start's in state 0, or it is another's and has its goto
  pub first_rule : (stack : List ℕ) (xs : List SymbolNumber) (q y : ℕ) (rule : machine.Rule) → IsPath states stack xs → last_of stack ≡ Some q → t.rule y ≡ Some rule → Has states q y 0 → ((q ≡ 0) × (rule.is_start ≡ true)) ⊎ ((rule.is_start ≡ false) × ((to : ℕ) × (edge_at states q (Nonterminal rule.nonterminal) ≡ Some to)))
  first_rule stack xs q y rule path top known h = by_start rule.is_start refl
    where
      a : Agree g y rule
      a = rule_of_tables y rule known

      leads : ((to : ℕ) × (edge_at states q (Nonterminal a.rule.left) ≡ Some to)) ⊎ ((q ≡ 0) × (a.rule.left ≡ over.number))
      leads = first_leads stack xs q y a.rule path top a.at h

      by_start : (b : Bool) → rule.is_start ≡ b → ((q ≡ 0) × (rule.is_start ≡ true)) ⊎ ((rule.is_start ≡ false) × ((to : ℕ) × (edge_at states q (Nonterminal rule.nonterminal) ≡ Some to)))
      by_start true e =
          ⊎_elim
          (λ (w : (to : ℕ) × (edge_at states q (Nonterminal a.rule.left) ≡ Some to)). absurd (never_unseen q a.rule.left w.0 (a.starts e) w.1))
          (λ (w : (q ≡ 0) × (a.rule.left ≡ over.number)). inl (w.0, e))
          leads
      by_start false e =
          ⊎_elim
          (λ (w : (to : ℕ) × (edge_at states q (Nonterminal a.rule.left) ≡ Some to)). inr (e, (w.0, ap (λ (n : ℕ). edge_at states q (Nonterminal n)) a.nonterminal_is ∙ w.1)))
          (λ (w : (q ≡ 0) × (a.rule.left ≡ over.number)). absurd (a.others start over.number over.begun e w.1))
          leads

  -- S11: an item of a start at the top of a path has all symbols of the path before its dot, of which there is at most one
  pub start_rule : (stack : List ℕ) (xs : List SymbolNumber) (q y d : ℕ) (rule : machine.Rule) → IsPath states stack xs → last_of stack ≡ Some q → t.rule y ≡ Some rule → rule.is_start ≡ true → Has states q y d → (d ≡ length xs) × (d ≤ 1) × (rule.length ≡ 1)
  start_rule stack xs q y d rule path top known e h =
      let a = rule_of_tables y rule known in
      let w = start_item stack xs q y d a.rule path top h a.at (a.starts e) in
      (w.1, w.3, a.length_is ∙ w.2)

  -- but for state 0, where the top state of a path has a first item it has a goto
  pub first_has_goto : (stack : List ℕ) (xs : List SymbolNumber) (q y : ℕ) → IsPath states stack xs → last_of stack ≡ Some q → q ≢ 0 → Has states q y 0 → (n to : ℕ) × (edge_at states q (Nonterminal n) ≡ Some to)
  first_has_goto stack xs q y path top other h =
      let r = dot_in_range q y 0 h in
      let w = first_goto stack xs q y r.0 path top r.1 h other in
      ((r.0).left, w.0, w.1)
