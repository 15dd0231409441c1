-- What a state of valid tables does: a shift is an edge, and a reduction is of a complete item.
use Rattle.std.proofs.Common.{◌≡◌, ℕ, List, length, Option, Some, None, slice_get, refl, sym, ap, ◌∙◌, subst}
use Rattle.std.specs.BTreeMap.{get}
use Rattle.std.specs.Ordering.{nat_cmp}
use Rattle.lp_repr.specs.Numbering as by_symbols
use Rattle.lp_repr.specs.ValidTables.{IsValidTables}
use Rattle.lp_repr.specs.declared.repr.Grammar.{Grammar}
use Rattle.lp_repr.specs.declared.numbering.Rule as numbering
use Rattle.lp_repr.specs.declared.numbering.SymbolNumber.TheVariants as symbol
use Rattle.lp_repr.specs.declared.lr1.Token.{Token}
use Rattle.lp_repr.specs.declared.lr1.Token.TheVariants.{Terminal, Eof}
use Rattle.lp_repr.specs.declared.lr1.Lr1State.{Lr1State}
use Rattle.lp_machine.specs.declared.lookup.Act.{Act}
use Rattle.lp_machine.specs.declared.lookup.Act.TheVariants.{Shift, ReduceBy}
use Rattle.lp_machine.specs.Lookup.{shift_in, reduction_act, reduction_at, reduction_in, shift_or, act_in, act_at, goto_in}
use Rattle.lp_machine.specs.Tables.{Tables}
use Rattle.lp_machine.specs.ExpectedList.{action_on, goto_from}
use Rattle.lp_turn_laws.specs.Paths.Standing.{LooksUp}
use Rattle.lp_turn_laws.specs.Paths.Walks.{edge_from, edge_at, Has}
use Rattle.lp_turn_laws.proofs.Paths.Reductions.{complete_at}

-- ---- reductions that are listed
-- a listed reduction by a production has its number
pub listed_act : (o : Option (List Token × ℕ)) (p : ℕ) → reduction_act o ≡ ReduceBy p → (red : List Token × ℕ) × (o ≡ Some red) × (red.1 ≡ p)
listed_act None p e = cc
listed_act (Some red) p e = (red, refl, cc)

-- the same of the one at a place
listed_at : (reductions : List (List Token × ℕ)) (o : Option ℕ) (p : ℕ) → reduction_at reductions o ≡ ReduceBy p → (i : ℕ) × (red : List Token × ℕ) × (slice_get reductions i ≡ Some red) × (red.1 ≡ p)
listed_at reductions None p e = cc
listed_at reductions (Some i) p e = let w = listed_act (slice_get reductions i) p e in (i, w.0, w.1, w.2)

-- no listed reduction is a shift
no_shift_listed : (reductions : List (List Token × ℕ)) (o : Option ℕ) (to : ℕ) → reduction_at reductions o ≡ Shift to → ⊥
no_shift_listed reductions None to e = cc
no_shift_listed reductions (Some i) to e = no_shift (slice_get reductions i) e
  where
    no_shift : (o : Option (List Token × ℕ)) → reduction_act o ≡ Shift to → ⊥
    no_shift None e = cc
    no_shift (Some red) e = cc

-- ---- what a state does
-- a shift is the first of the two
shift_or_shift : (o : Option ℕ) (act : Act) (to : ℕ) → (act ≡ Shift to → ⊥) → shift_or o act ≡ Shift to → o ≡ Some to
shift_or_shift None act to never e = absurd (never e)
shift_or_shift (Some p) act to never e = cc

-- a reduction is the second, where nothing is shifted
pub shift_or_reduce : (o : Option ℕ) (act : Act) (p : ℕ) → shift_or o act ≡ ReduceBy p → act ≡ ReduceBy p
shift_or_reduce None act p e = e
shift_or_reduce (Some to) act p e = cc

-- a shift is an edge over a terminal
pub act_shift : (o : Option Lr1State) (token : Token) (to : ℕ) → act_in o token ≡ Shift to → (i : ℕ) × (token ≡ Terminal i) × (edge_from o (symbol.Terminal i) ≡ Some to)
act_shift None token to e = cc
act_shift (Some s) (Terminal i) to e = (i, refl, shift_or_shift (get nat_cmp s.shifts i) (reduction_in s.reductions (Terminal i)) to (no_shift_listed s.reductions _ to) e)
act_shift (Some s) Eof to e = absurd (no_shift_listed s.reductions _ to e)

-- a reduction is listed
act_reduce : (o : Option Lr1State) (token : Token) (p : ℕ) → act_in o token ≡ ReduceBy p → (s : Lr1State) × (o ≡ Some s) × (i : ℕ) × (red : List Token × ℕ) × (slice_get s.reductions i ≡ Some red) × (red.1 ≡ p)
act_reduce None token p e = cc
act_reduce (Some s) token p e =
    let w = listed_at s.reductions _ p (shift_or_reduce (shift_in s token) (reduction_in s.reductions token) p e) in
    (s, refl, w.0, w.1, w.2, w.3)

-- a goto is an edge over a nonterminal
pub goto_edge : (o : Option Lr1State) (n : ℕ) → goto_in o n ≡ edge_from o (symbol.Nonterminal n)
goto_edge None n = refl
goto_edge (Some s) n = refl

module _ (g : Grammar) (start : ℕ) (states : List Lr1State) (valid : IsValidTables g start states) where
  -- a reduction is of a complete item
  pub reduces_at : (q : ℕ) (token : Token) (p : ℕ) → act_at states q token ≡ ReduceBy p → (r : numbering.Rule) × (slice_get (by_symbols.rules_of g) p ≡ Some r) × Has states q p (length r.right)
  reduces_at q token p e =
      let w = act_reduce (slice_get states q) token p e in
      let c = complete_at g start states valid q w.0 w.2 w.3 w.1 w.4 in
      (c.0, subst (λ (i : ℕ). slice_get (by_symbols.rules_of g) i ≡ Some c.0) w.5 c.1, subst (λ (i : ℕ). Has states q i (length c.0.right)) w.5 c.2)

  module _ (t : Tables) (looks : LooksUp g states t) where
    -- the same of a machine's top state
    pub machine_reduces : (o terminal : Option ℕ) (p : ℕ) → action_on t o terminal ≡ ReduceBy p → (q : ℕ) × (o ≡ Some q) × (r : numbering.Rule) × (slice_get (by_symbols.rules_of g) p ≡ Some r) × Has states q p (length r.right)
    machine_reduces None terminal p e = cc
    machine_reduces (Some q) None p e = let w = reduces_at q Eof p (sym (looks.at_eof q) ∙ e) in (q, refl, w.0, w.1, w.2)
    machine_reduces (Some q) (Some i) p e = let w = reduces_at q (Terminal i) p (sym (looks.action q i) ∙ e) in (q, refl, w.0, w.1, w.2)

    -- a machine's shift is an edge over the terminal
    pub machine_shifts : (o terminal : Option ℕ) (to : ℕ) → action_on t o terminal ≡ Shift to → (q : ℕ) × (o ≡ Some q) × (i : ℕ) × (terminal ≡ Some i) × (edge_at states q (symbol.Terminal i) ≡ Some to)
    machine_shifts None terminal to e = cc
    machine_shifts (Some q) None to e =
        let w = act_shift (slice_get states q) Eof to (sym (looks.at_eof q) ∙ e) in
        let f : Eof ≡ Terminal w.0 = w.1 in
        absurd (cc)
    machine_shifts (Some q) (Some i) to e =
        let w = act_shift (slice_get states q) (Terminal i) to (sym (looks.action q i) ∙ e) in
        let f : Terminal i ≡ Terminal w.0 = w.1 in
        let k : i ≡ w.0 = cc in
        (q, refl, i, refl, ap (λ (j : ℕ). edge_at states q (symbol.Terminal j)) k ∙ w.2)

    -- a machine's goto is an edge over the nonterminal
    pub machine_goto : (q n : ℕ) → goto_from t (Some q) n ≡ edge_at states q (symbol.Nonterminal n)
    machine_goto q n = looks.goto q n ∙ goto_edge (slice_get states q) n
