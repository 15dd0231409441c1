-- The law of a call, for recursive ascent: each state's function, and each loop over gotos, answers what the stack machine comes to.
use Rattle.std.proofs.Common.{ℕ, List}
use Rattle.std.proofs.lemmas.Option.{slice_get_within}
use Rattle.lp_repr.specs.declared.lr1.Lr1State.{Lr1State}
use Rattle.lp_repr.specs.declared.repr.Grammar.{Grammar}
use Rattle.lp_repr.specs.declared.values.RunItem.{RunItem}
use Rattle.lp_driver.specs.declared.answers.Expecting.TheVariants.{Trial}
use Rattle.lp_driver.specs.Values.{Text}
use Rattle.lp_core.specs.declared.value.StateType.{StateType}
use Rattle.lp_core.specs.Store.{Program}
use Rattle.lp_core.specs.Val.{Val}
use Rattle.lp_machine.specs.GrammarTables.{grammar_tables}
use Rattle.lp_back_end_laws.specs.Call.Law.{Law}
use Rattle.lp_back_end_laws.specs.Call.Turns.{LoopLaw}
use Rattle.lp_back_end_laws.proofs.Call.ArmLaws.{ErrorLaw, ReductionLaw, ShiftLaw, TurnLaw}
use Rattle.lp_back_end_laws.proofs.Call.ErrorAnswers.{error_answers}
use Rattle.lp_back_end_laws.proofs.Call.LawByArms.{law_by_arms, loops_by_arms}
use Rattle.lp_back_end_laws.proofs.Call.ReductionAnswers.{reduction_answers}
use Rattle.lp_back_end_laws.proofs.Call.Setting.{Setting}
use Rattle.lp_back_end_laws.proofs.Call.ShiftAnswers.{shift_answers}
use Rattle.lp_back_end_laws.proofs.Call.StateLoops.{loops_of}
use Rattle.lp_back_end_laws.proofs.Call.TurnAnswers.{turn_answers}

module _ {g : Grammar} {start : ℕ} {states : List Lr1State} {params : List Text} {failing : List ℕ} {items : List RunItem} {p : Program} {keys : List (List ℕ)} {given : List Val} {function action variant : ℕ → ℕ} {kind : StateType} {expected most cost : ℕ}
    (setting : Setting g start states params failing items p keys given function action variant kind expected most cost) where
  shifts : (n : ℕ) → ShiftLaw setting (loops_of setting) n
  shifts n q s there shared names arms many c list own x m match hold to act pattern is a arm after follow law loop w left less =
      shift_answers setting q s there match hold to act pattern is arm (loops_of setting) follow n law loop w left less

  reduces : (n : ℕ) → ReductionLaw setting (loops_of setting) n
  reduces n q s there shared names arms many c list own look m match k production does known tokens a arm after follow loop w left less =
      reduction_answers setting there match k known does tokens arm (loops_of setting) follow w n loop left less

  errors : ErrorLaw setting (loops_of setting)
  errors q s there shared names arms many c list own look m match why a error after w left = error_answers setting (slice_get_within states q s there) match error why after w left

  turns : (n : ℕ) → TurnLaw setting (loops_of setting) n
  turns n q s there code law loop c list own now st h le = turn_answers setting (loops_of setting) there code n law loop h (setting.gotos_ordered q s there) le

  -- every call of a state's function does what the machine does
  pub call_law : Law g states (grammar_tables g states Trial params failing) items variant most p function given
  call_law = law_by_arms setting shifts reduces errors turns

  -- and so does every loop
  pub loop_law : LoopLaw g states (grammar_tables g states Trial params failing) items variant most p keys given (loops_of setting)
  loop_law = loops_by_arms setting shifts reduces errors turns
