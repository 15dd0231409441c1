-- Every call of a state's function is answered before its match, or comes to it.
use Rattle.std.proofs.Common.{◌≡◌, ℕ, zero, suc, List, ◌∷◌, Some, slice_get, refl, sym, ap, ◌∙◌, subst, arith, append_assoc}
use Rattle.lp_repr.specs.declared.lr1.Lr1State.{Lr1State}
use Rattle.lp_repr.specs.declared.repr.Grammar.{Grammar}
use Rattle.lp_repr.specs.declared.values.RunItem.{RunItem}
use Rattle.lp_driver.specs.declared.answers.Expecting.TheVariants.{Trial}
use Rattle.lp_driver.specs.Values.{Text}
use Rattle.lp_core.specs.declared.value.StateType.{StateType}
use Rattle.lp_core.specs.Eval.{run_call}
use Rattle.lp_core.specs.Flow.{State}
use Rattle.lp_core.specs.Store.{Program}
use Rattle.lp_core.specs.Val.{Val, Plain}
use Rattle.lp_core.specs.declared.value.Tag.TheVariants as tag
use Rattle.lp_core.specs.Datum.{Cell}
use Rattle.lp_core.specs.Reading.{empty}
use Rattle.lp_core.proofs.Falls.{same_prefix}
use Rattle.lp_machine.specs.declared.config.Config.{Config}
use Rattle.lp_machine.specs.GrammarTables.{grammar_tables}
use Rattle.lp_machine.specs.Tables.{Tables}
use Rattle.lp_code_laws.specs.Ends.Ends.{at, moment}
use Rattle.lp_back_end_laws.specs.Call.Law.{Answers}
use Rattle.lp_back_end_laws.specs.Call.Slots.{layout}
use Rattle.lp_back_end_laws.specs.Call.Standing.{Entry, Handed, pulls, sees}
use Rattle.lp_core.specs.Prefix.{IsPrefix}
use Rattle.lp_back_end_laws.proofs.Call.Beginning.{Begins, answered, begins_handed, spent_early}
use Rattle.lp_back_end_laws.proofs.Call.BeginningPull.{begins_pulling}
use Rattle.lp_back_end_laws.proofs.Call.Pulling.{handed_vals}
use Rattle.lp_back_end_laws.proofs.Call.Setting.{Setting}

module _ {g : Grammar} {start : ℕ} {states : List Lr1State} {params : List Text} {failing : List ℕ} {items : List RunItem} {p : Program} {keys : List (List ℕ)} {given : List Val} {function action variant : ℕ → ℕ} {kind : StateType} {expected most cost : ℕ}
    (setting : Setting g start states params failing items p keys given function action variant kind expected most cost) (q : ℕ) (s : Lr1State) (there : slice_get states q ≡ Some s) where
  abbrev t : Tables
  t = grammar_tables g states Trial params failing

  pub begins : (c : Config) (list : ℕ) (slots vs : List Val) (st : State) → Entry g states t items given q c list slots vs st → Begins setting q s there c list slots st (run_call p (function q) vs st)
  begins c list slots vs st entry = by st.left refl
    where
      handed_so : (b : ℕ) (look : List Val) → st.left ≡ suc b → Handed t items (layout g states q) c look → Begins setting q s there c list slots st (run_call p (function q) (handed_vals given list look slots) st)
      handed_so b look left_is (sees x handed taken seen) = begins_handed setting q s there c list slots st b x left_is handed taken seen entry.on_top entry.mending entry.slots_are entry.apart entry.follows
      handed_so b look left_is (pulls handed none ends ready) = begins_pulling setting q s there c list slots st b left_is handed none ends ready entry.on_top entry.mending entry.slots_are entry.apart entry.follows

      by : (left : ℕ) → st.left ≡ left → Begins setting q s there c list slots st (run_call p (function q) vs st)
      by zero left_is = answered (subst (Answers g states t items variant most q c slots st) (sym (ap (λ (k : ℕ). run_call p (function q) vs (at (moment st.store st.calls) k)) left_is)) (spent_early setting q s there c st st.calls (subst (IsPrefix st.calls) entry.follows.calls (same_prefix st.calls)) (omega (arith, left_is))))
      by (suc b) left_is = subst (λ ws. Begins setting q s there c list slots st (run_call p (function q) ws st)) (sym (entry.values ∙ append_assoc given (empty tag.Tuple ∷ Plain (Cell list) ∷ entry.look) slots)) (handed_so b entry.look left_is entry.handed)
