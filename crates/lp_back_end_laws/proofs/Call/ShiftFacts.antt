-- What a shift of a state leads to: an edge, a move of the machine, and what follows in the frame.
use Rattle.std.proofs.Common.{◌≡◌, ◌⊎◌, ℕ, ◌<◌, ◌≤◌, ◌^◌, true, false, List, [], ◌∷◌, length, Option, Some, None, slice_get, refl, sym, ap, ◌∙◌, subst, ⊎_elim, inl, inr, arith, cond}
use Rattle.std.specs.Prelude.{IsSome}
use Rattle.std.specs.BTreeMap.{get}
use Rattle.std.specs.Map.{lookup}
use Rattle.std.specs.Ordering.{nat_cmp, eq_by_cmp}
use Rattle.std.proofs.lemmas.Bool.{cases_eq}
use Rattle.std.proofs.lemmas.Bool.Decides.{nat_tests}
use Rattle.std.proofs.lemmas.Option.{none-some}
use Rattle.lp_repr.specs.Numbering.{productions_of}
use Rattle.lp_repr.specs.declared.lr1.Lr1State.{Lr1State}
use Rattle.lp_repr.specs.declared.lr1.Token.TheVariants.{Terminal}
use Rattle.lp_repr.specs.declared.numbering.SymbolNumber.TheVariants as symbol
use Rattle.lp_repr.specs.declared.repr.Grammar.{Grammar}
use Rattle.lp_repr.specs.declared.repr.Production.{Production}
use Rattle.lp_repr.specs.declared.values.RunItem.{RunItem}
use Rattle.lp_driver.specs.Values.{Spanned, Token}
use Rattle.lp_machine.specs.declared.config.Config.{Config}
use Rattle.lp_machine.specs.declared.lookup.Act.TheVariants.{Shift}
use Rattle.lp_machine.specs.declared.lookup.Rule.{Rule}
use Rattle.lp_machine.specs.ExpectedList.{action_on}
use Rattle.lp_machine.specs.Lookup.{act_at, goto_at}
use Rattle.lp_machine.specs.Move.{shifts}
use Rattle.lp_machine.specs.Moves.{asks}
use Rattle.lp_machine.specs.StackMachine.{lookahead_terminal}
use Rattle.lp_machine.specs.Tables.{Tables}
use Rattle.lp_turn_laws.specs.Alike.Course.{Leads}
use Rattle.lp_ascent.specs.Slots.{count_of}
use Rattle.lp_turn_laws.specs.Paths.Over.{IsOver}
use Rattle.lp_turn_laws.specs.Paths.Walks.{edge_at, edge_from, Has}
use Rattle.lp_turn_laws.proofs.Paths.Acts.{act_shift, goto_edge}
use Rattle.lp_turn_laws.proofs.Paths.Slots.{greatest_dot, item_within}
use Rattle.lp_back_end_laws.specs.Call.Slots.{layout}
use Rattle.lp_back_end_laws.specs.Call.Law.{Takes}
use Rattle.lp_back_end_laws.specs.Call.Standing.{Holds, Sees, at_end, known, unknown, OnTop}
use Rattle.lp_back_end_laws.proofs.Call.Items.{first_rule}
use Rattle.lp_back_end_laws.proofs.Call.Layouts.{count_is, dot_below, first_layout, shift_has_goto}
use Rattle.lp_back_end_laws.proofs.Call.Moves.{shift}

-- a machine that has a token in hand asks what to do on it
pub asks_known : {t : Tables} {items : List RunItem} {c : Config} {x : Spanned Token} → Sees t items c (Some x) → Holds t c x → c ≡ asks t items c
asks_known {t = t} {items = items} {c = c} {x = x} sees hold = by sees refl
  where
    by : {look : Option (Spanned Token)} → Sees t items c look → look ≡ Some x → c ≡ asks t items c
    by (at_end none ends asked) e = asked
    by (known y h asked) e = asked
    by (unknown y none terminal error) e = absurd (none-some _ (sym none ∙ hold.in_hand))

module _ {g : Grammar} {start : ℕ} {states : List Lr1State} {t : Tables} (over : IsOver g start states t) where
  -- a shift is an edge
  pub shift_is_edge : (q i to : ℕ) → act_at states q (Terminal i) ≡ Shift to → edge_at states q (symbol.Terminal i) ≡ Some to
  shift_is_edge q i to act =
      let w = act_shift (slice_get states q) (Terminal i) to act in
      let e : Terminal i ≡ Terminal w.0 = w.1 in
      let same : w.0 ≡ i = cc in
      ap (λ j. edge_at states q (symbol.Terminal j)) (sym same) ∙ w.2

  -- and a move of the machine
  pub shift_leads : (items : List RunItem) (never : t.error ≡ None) (q : ℕ) (c : Config) (x : Spanned Token) (to : ℕ) → OnTop states q c → c.mending ≡ None → c ≡ asks t items c → (h : Holds t c x) → act_at states q (Terminal h.index) ≡ Shift to → Leads t items c (shifts t items c to) 1
  shift_leads items never q c x to top whole asked h act =
      shift t items never c to whole asked
      (ap (λ o. action_on t o (lookahead_terminal c.lookahead)) top.top ∙ ap (λ o. action_on t (Some q) (lookahead_terminal o)) h.in_hand ∙ over.known.action q h.index ∙ act)

  -- slots are no more than a production has symbols
  pub count_small : ((i : ℕ) (production : Production) → slice_get (productions_of g) i ≡ Some production → length production.symbols < 2 ^ 64) → (q : ℕ) (s : Lr1State) → slice_get states q ≡ Some s → count_of (layout g states q) < 2 ^ 64
  count_small few q s at =
      let greatest = greatest_dot g over.grammar start states over.tables q s at in
      ⊎_elim
      (λ none. omega (arith, count_is over q s at, none))
      (λ w.
      let i = item_within g over.grammar start states over.tables q s w.1.0 w.1.1 at w.1.2 in
      omega (arith, count_is over q s at, few w.1.1.production i.0 i.1, i.2, w.1.4))
      greatest.reached

  -- a goto leads somewhere
  pub goto_is : (q n to : ℕ) → edge_at states q (symbol.Nonterminal n) ≡ Some to → IsSome (goto_at states q n)
  goto_is q n to edge = subst IsSome (sym (goto_edge (slice_get states q) n ∙ edge)) refl

  -- a state that shifts to one with one fixed slot has a goto, or it is state 0 and has none: then only the start's production comes back to it
  pub goes_on_so : (c : Config) (q i to : ℕ) (s : Lr1State) → OnTop states q c → slice_get states q ≡ Some s → edge_at states q (symbol.Terminal i) ≡ Some to → (layout g states to).fixed ≡ 1
      → ((n : ℕ) × (m : ℕ) × (edge_at states q (symbol.Nonterminal n) ≡ Some m)) ⊎ ((s.gotos.entries ≡ []) × ((d y : ℕ) (rule : Rule) → t.rule y ≡ Some rule → Has states q y d → Takes q d rule))
  goes_on_so c q i to s top at edge one = ⊎_elim (λ (zero_q : q ≡ 0). by zero_q s.gotos.entries refl) (λ other. inl (shift_has_goto over c.states top.stands.symbols q (symbol.Terminal i) to top.stands.path top.top other edge one)) (cases_eq q 0)
    where
      there : (n : ℕ) → edge_at states q (symbol.Nonterminal n) ≡ get nat_cmp s.gotos n
      there n = ap (λ o. edge_from o (symbol.Nonterminal n)) at

      by : q ≡ 0 → (es : List (ℕ × ℕ)) → s.gotos.entries ≡ es → ((n : ℕ) × (m : ℕ) × (edge_at states q (symbol.Nonterminal n) ≡ Some m)) ⊎ ((s.gotos.entries ≡ []) × ((d y : ℕ) (rule : Rule) → t.rule y ≡ Some rule → Has states q y d → Takes q d rule))
      by zero_q (e ∷ es) is =
          let same : eq_by_cmp nat_cmp e.0 e.0 ≡ true = grind (arith, nat_tests) in
          inl (e.0, e.1, there e.0 ∙ ap (λ l. lookup (eq_by_cmp nat_cmp e.0) l) is ∙ ap (λ b. cond b (Some e.1) (lookup (eq_by_cmp nat_cmp e.0) es)) same)
      by zero_q [] is = inr (is, takes)
        where
          takes : (d y : ℕ) (rule : Rule) → t.rule y ≡ Some rule → Has states q y d → Takes q d rule
          takes d y rule listed has =
              let within = dot_below over q y d has in
              let none : d ≡ 0 = omega (arith, subst (λ r. d ≤ count_of (layout g states r)) zero_q within, (first_layout over).0) in
              ⊎_elim
              (λ (start : (q ≡ 0) × (rule.is_start ≡ true)). inl start)
              (λ (w : (rule.is_start ≡ false) × ((to : ℕ) × (edge_at states q (symbol.Nonterminal rule.nonterminal) ≡ Some to))).
              absurd (none-some w.1.0 (sym (there rule.nonterminal ∙ ap (λ l. lookup (eq_by_cmp nat_cmp rule.nonterminal) l) is) ∙ w.1.1)))
              (first_rule over c.states top.stands.symbols q y rule top.stands.path top.top listed (subst (Has states q y) none has))
