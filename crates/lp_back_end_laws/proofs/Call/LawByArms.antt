-- The law of a call, and that of a loop, by the steps that are left: from what the arms, the error and the loop answer.
use Rattle.std.proofs.Common.{◌≡◌, ℕ, zero, suc, ◌≤◌, List, Some, slice_get, sym, ap, ◌∙◌, arith}
use Rattle.lp_repr.specs.declared.lr1.Lr1State.{Lr1State}
use Rattle.lp_repr.specs.declared.numbering.SymbolNumber.TheVariants.{Nonterminal}
use Rattle.lp_repr.specs.declared.repr.Grammar.{Grammar}
use Rattle.lp_repr.specs.declared.values.RunItem.{RunItem}
use Rattle.lp_driver.specs.declared.answers.Expecting.TheVariants.{Trial}
use Rattle.lp_driver.specs.Values.{Text}
use Rattle.lp_core.specs.declared.value.StateType.{StateType}
use Rattle.lp_core.specs.Eval.{run, run_call}
use Rattle.lp_core.specs.Flow.{State}
use Rattle.lp_core.specs.Store.{Program}
use Rattle.lp_core.specs.Tree.{Loop}
use Rattle.lp_core.specs.Val.{Val}
use Rattle.lp_machine.specs.declared.config.Config.{Config}
use Rattle.lp_machine.specs.GrammarTables.{grammar_tables}
use Rattle.lp_machine.specs.Lookup.{goto_in}
use Rattle.lp_machine.specs.Tables.{Tables}
use Rattle.lp_turn_laws.specs.Paths.Walks.{edge_at, edge_from}
use Rattle.lp_turn_laws.proofs.Paths.Edges.{some_of}
use Rattle.lp_back_end_laws.specs.Call.Law.{Answers, Law}
use Rattle.lp_back_end_laws.specs.Call.Standing.{Entry}
use Rattle.lp_back_end_laws.specs.Call.Turns.{Turning, TurnAnswers, LoopLaw}
use Rattle.lp_back_end_laws.proofs.Call.Answering.{answers_so}
use Rattle.lp_back_end_laws.proofs.Call.ArmLaws.{ErrorLaw, ReductionLaw, ShiftLaw, TurnLaw}
use Rattle.lp_back_end_laws.proofs.Call.Beginning.{Begins, answered, comes}
use Rattle.lp_back_end_laws.proofs.Call.CallBegins.{begins}
use Rattle.lp_back_end_laws.proofs.Call.Dispatch.{match_answers}
use Rattle.lp_back_end_laws.proofs.Call.Items.{top_state}
use Rattle.lp_back_end_laws.proofs.Call.FunctionArms.{after_at, many_at, names_at, shared_at}
use Rattle.lp_back_end_laws.proofs.Call.Matching.{After, LawBelow, LoopBelow}
use Rattle.lp_back_end_laws.proofs.Call.Setting.{Setting}
use Rattle.lp_back_end_laws.proofs.Call.StateLoops.{after_known, loop_known, loops_of}

module _ {g : Grammar} {start : ℕ} {states : List Lr1State} {params : List Text} {failing : List ℕ} {items : List RunItem} {p : Program} {keys : List (List ℕ)} {given : List Val} {function action variant : ℕ → ℕ} {kind : StateType} {expected most cost : ℕ}
    (setting : Setting g start states params failing items p keys given function action variant kind expected most cost) where
  abbrev t : Tables
  t = grammar_tables g states Trial params failing

  -- where the arms, the error's and the loop answer, with the laws for fewer steps
  module _ (shifts : (n : ℕ) → ShiftLaw setting (loops_of setting) n) (reduces : (n : ℕ) → ReductionLaw setting (loops_of setting) n) (errors : ErrorLaw setting (loops_of setting)) (turns : (n : ℕ) → TurnLaw setting (loops_of setting) n) where
    module _ (n : ℕ) (law : LawBelow g states t items variant most n p function given) (loop : LoopBelow g states t items variant most n p keys given (loops_of setting)) where
      -- a call with n steps left
      call_now : (q : ℕ) (c : Config) (list : ℕ) (slots vs : List Val) (st : State) → st.left ≤ n → Entry g states t items given q c list slots vs st → Answers g states t items variant most q c slots st (run_call p (function q) vs st)
      call_now q c list slots vs st le entry =
          let top = top_state setting.over c.states entry.on_top.stands.symbols q entry.on_top.stands.path entry.on_top.top in
          let after = after_known setting q top.0 top.1 in
          by top.0 after.0 after.1 (begins setting q top.0 after.0 c list slots vs st entry)
        where
          by : (s : Lr1State) (e : slice_get states q ≡ Some s) → After g states q s (shared_at setting q s e) (names_at setting q s e) (many_at setting q s e) (loops_of setting q) (after_at setting q s e) → Begins setting q s e c list slots st (run_call p (function q) vs st) → Answers g states t items variant most q c slots st (run_call p (function q) vs st)
          by s e after (answered a) = a
          by s e after (comes m) =
              answers_so setting q s e c list slots st (run_call p (function q) vs st) m
              (match_answers setting (loops_of setting) n (shifts n) (reduces n) errors law loop q s e after m.now list m.own m.moment m.value m.left (let less = m.some in omega (arith, less, le)) m.look m.matched)

      -- a loop with n steps left
      loop_now : (q : ℕ) (c : Config) (list : ℕ) (own : List Val) (now : Config) (st : State) → st.left ≤ n → (h : Turning g states t items variant most keys given (loops_of setting q) q c list own now st) → TurnAnswers g states t items variant most q c own h.d now st (run p (Loop (loops_of setting q).turn) st)
      loop_now q c list own now st le h =
          let to = some_of _ h.some_goto.1 in
          let edge : edge_at states q (Nonterminal h.some_goto.0) ≡ Some to.0 = ap (λ o. edge_from o (Nonterminal h.some_goto.0)) h.goes.1 ∙ sym (ap (λ o. goto_in o h.some_goto.0) h.goes.1) ∙ to.1 in
          turns n q h.goes.0 h.goes.1 (loop_known setting q h.goes.0 h.goes.1 h.goes.2 h.some_goto.0 to.0 edge) law loop c list own now st h le

    -- with fewer steps than a number
    both_below : (n : ℕ) → LawBelow g states t items variant most n p function given × LoopBelow g states t items variant most n p keys given (loops_of setting)
    both_below zero = ((λ q c list slots vs st less. absurd (omega (arith, less))), (λ q c list own now st less. absurd (omega (arith, less))))
    both_below (suc n) =
        let before = both_below n in
        ((λ q c list slots vs st less entry. call_now n before.0 before.1 q c list slots vs st (omega (arith, less)) entry), (λ q c list own now st less h. loop_now n before.0 before.1 q c list own now st (omega (arith, less)) h))

    -- every call of a state's function does what the machine does
    pub law_by_arms : Law g states t items variant most p function given
    law_by_arms q c list slots vs st entry = (both_below (suc st.left)).0 q c list slots vs st (omega arith) entry

    -- and every loop
    pub loops_by_arms : LoopLaw g states t items variant most p keys given (loops_of setting)
    loops_by_arms q c list own now st h = (both_below (suc st.left)).1 q c list own now st (omega arith) h
