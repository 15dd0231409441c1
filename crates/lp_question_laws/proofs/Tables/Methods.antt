-- The methods of the machine stand under their numbers, in the module and in a program that has its functions.
use Rattle.std.proofs.Common.{◌≡◌, ℕ, List, [], ◌∷◌, ◌++◌, length, Option, Some, pos, ap, ◌∙◌}
use Rattle.std.specs.Prelude.{slice_get, codes}
use Rattle.lp_core.specs.declared.expr.Function.{Function}
use Rattle.lp_view.specs.PartLists.{Form, hole_of}
use Rattle.lp_maker.specs.declared.methods.Methods.{Methods}
use Rattle.lp_maker.specs.Slots.{Names}
use Rattle.lp_maker.specs.Texts.{state_type_of}
use Rattle.lp_maker.specs.Constructs.{called, index, state, take_slot}
use Rattle.lp_maker.specs.Making.{Making, with_function, number_in}
use Rattle.lp_bodies.specs.Actions.{takes}
use Rattle.lp_bodies.specs.Source.{function, default_location}
use Rattle.lp_bodies.specs.MachineMethods.{last_terminal, recovery_rows, with_method, after_location, after_state, after_index, after_action, after_error, after_eof, after_goto, after_symbol, after_expected, after_recovery, after_reduce, with_methods, methods_of}
use Rattle.lp_run.specs.Module.{Module}
use Rattle.lp_question_laws.proofs.Tables.Looks.{entry_code}
use Rattle.lp_question_laws.proofs.Gotos.LinkMaps.{get_more, get_end}
use Rattle.lp_question_laws.proofs.Gotos.LinkGrows.{Extends, both, one_function}
use Rattle.lp_question_laws.proofs.Gotos.LinkModule.{earlier_extends, later_extends, recovery_extends, finished_there, ModuleMade}

-- what was made at a place stays there
pub there : (m after : Making) (f : Function) → Extends (with_function (Some f) m) after → slice_get after.functions (length m.functions) ≡ Some (Some f)
there m after f e =
    ap (λ (fs : List (Option Function)). slice_get fs (length m.functions)) e.functions.1
    ∙ get_more (m.functions ++ Some f ∷ []) e.functions.0 (length m.functions) (Some f) (get_end m.functions [] (Some f))

module _ (form : Form) (fields : Names) (count : ℕ) (m : Making) where
  abbrev all : Making
  all = with_methods form fields count m

  abbrev numbers : Methods
  numbers = methods_of form fields count m

  -- what stands after each method
  from_eof : Extends (after_eof form m) all
  from_eof = both (after_eof form m) (after_goto form m) all (one_function _ (after_eof form m)) (later_extends form fields count m)

  from_error : Extends (after_error form m) all
  from_error = both (after_error form m) (after_eof form m) all (one_function _ (after_error form m)) from_eof

  from_action : Extends (after_action form m) all
  from_action = both (after_action form m) (after_error form m) all (one_function _ (after_action form m)) from_error

  from_index : Extends (after_index form m) all
  from_index = both (after_index form m) (after_action form m) all (one_function _ (after_index form m)) from_action

  from_state : Extends (after_state form m) all
  from_state = both (after_state form m) (after_index form m) all (one_function _ (after_state form m)) from_index

  from_location : Extends (after_location m) all
  from_location = both (after_location m) (after_state form m) all (one_function _ (after_location m)) from_state

  from_reduce : Extends (after_reduce form fields count m) all
  from_reduce = one_function _ (after_reduce form fields count m)

  from_recovery : Extends (after_recovery form m) all
  from_recovery = both (after_recovery form m) (after_reduce form fields count m) all (one_function _ (after_recovery form m)) from_reduce

  pub location_method : slice_get all.functions numbers.start_location ≡ Some (Some (function 0 0 default_location))
  location_method = there m all _ from_location

  pub state_method : slice_get all.functions numbers.start_state ≡ Some (Some (function 0 0 (state (state_type_of (hole_of 7 form)) (Some (pos 0)))))
  state_method = there (after_location m) all _ from_state

  -- the names are those that were given numbers before
  names_at_index : (after_state form m).names ≡ m.names
  names_at_index = (both m (after_location m) (after_state form m) (one_function _ m) (one_function _ (after_location m))).names

  pub index_method : (k : ℕ) → number_in (codes "token_to_integer") m.names ≡ Some k → slice_get all.functions numbers.token_to_index ≡ Some (Some (function 1 0 (called (takes 1) (Some k))))
  index_method k h =
      there (after_state form m) all _ from_index ∙ ap (λ (o : Option ℕ). Some (Some (function 1 0 (called (takes 1) o)))) (ap (number_in (codes "token_to_integer")) names_at_index ∙ h)

  names_at_action : (after_index form m).names ≡ m.names
  names_at_action = (both m (after_state form m) (after_index form m) (both m (after_location m) (after_state form m) (one_function _ m) (one_function _ (after_location m))) (one_function _ (after_state form m))).names

  pub action_method : (k : ℕ) → number_in (codes "action") m.names ≡ Some k → slice_get all.functions numbers.action ≡ Some (Some (function 2 0 (called (takes 2) (Some k))))
  action_method k h =
      there (after_index form m) all _ from_action ∙ ap (λ (o : Option ℕ). Some (Some (function 2 0 (called (takes 2) o)))) (ap (number_in (codes "action")) names_at_action ∙ h)

  names_at_error : (after_action form m).names ≡ m.names
  names_at_error = (both m (after_index form m) (after_action form m) (both m (after_state form m) (after_index form m) (both m (after_location m) (after_state form m) (one_function _ m) (one_function _ (after_location m))) (one_function _ (after_state form m))) (one_function _ (after_index form m))).names

  -- the action on the error terminal
  pub error_method : (k : ℕ) → number_in (codes "action") m.names ≡ Some k → slice_get all.functions numbers.error_action ≡ Some (Some (function 1 0 (called (take_slot 0 ∷ index (last_terminal (hole_of 9 form)) ∷ []) (Some k))))
  error_method k h =
      there (after_action form m) all _ from_error
      ∙ ap (λ (o : Option ℕ). Some (Some (function 1 0 (called (take_slot 0 ∷ index (last_terminal (hole_of 9 form)) ∷ []) o)))) (ap (number_in (codes "action")) names_at_error ∙ h)

  -- the table at the end of the items is the one that was made
  pub error_kept : (after_error form m).eof_table ≡ m.eof_table
  error_kept =
      (both m (after_action form m) (after_error form m) (both m (after_index form m) (after_action form m) (both m (after_state form m) (after_index form m) (both m (after_location m) (after_state form m) (one_function _ m) (one_function _ (after_location m))) (one_function _ (after_state form m))) (one_function _ (after_index form m))) (one_function _ (after_action form m))).eof_table

  pub eof_method : slice_get all.functions numbers.eof_action ≡ Some (Some (entry_code (after_error form m).eof_table))
  eof_method = there (after_error form m) all _ from_eof

  from_expected : Extends (after_expected form m) all
  from_expected = both (after_expected form m) (after_recovery form m) all (recovery_extends form (after_expected form m)) from_recovery

  from_symbol : Extends (after_symbol form m) all
  from_symbol = both (after_symbol form m) (after_expected form m) all (one_function _ (after_symbol form m)) from_expected

  names_at_symbol : (after_goto form m).names ≡ m.names
  names_at_symbol = (both m (after_eof form m) (after_goto form m) (earlier_extends form m) (one_function _ (after_eof form m))).names

  pub symbol_method : (k : ℕ) → number_in (codes "token_to_symbol") m.names ≡ Some k → slice_get all.functions numbers.token_to_symbol ≡ Some (Some (function 2 0 (called (takes 2) (Some k))))
  symbol_method k h =
      there (after_goto form m) all _ from_symbol ∙ ap (λ (o : Option ℕ). Some (Some (function 2 0 (called (takes 2) o)))) (ap (number_in (codes "token_to_symbol")) names_at_symbol ∙ h)

  names_at_expected : (after_symbol form m).names ≡ m.names
  names_at_expected = (both m (after_goto form m) (after_symbol form m) (both m (after_eof form m) (after_goto form m) (earlier_extends form m) (one_function _ (after_eof form m))) (one_function _ (after_goto form m))).names

  pub expected_method : (k : ℕ) → number_in (codes "expected_tokens_from_states") m.names ≡ Some k → slice_get all.functions numbers.expected_tokens_from_states ≡ Some (Some (function 1 0 (called (takes 1) (Some k))))
  expected_method k h =
      there (after_symbol form m) all _ from_expected
      ∙ ap (λ (o : Option ℕ). Some (Some (function 1 0 (called (takes 1) o)))) (ap (number_in (codes "expected_tokens_from_states")) names_at_expected ∙ h)

  -- what was made before keeps its numbers
  pub before_recovery : Extends m (after_expected form m)
  before_recovery =
      both m (after_symbol form m) (after_expected form m)
      (both m (after_goto form m) (after_symbol form m) (both m (after_eof form m) (after_goto form m) (earlier_extends form m) (one_function _ (after_eof form m))) (one_function _ (after_goto form m)))
      (one_function _ (after_symbol form m))

  -- whether errors are mended
  pub recovery_method : slice_get all.functions numbers.uses_error_recovery ≡ Some (Some (function 0 0 (recovery_rows (after_expected form m) form).uses))
  recovery_method =
      let s = recovery_rows (after_expected form m) form in
      let uses = with_method 0 s.uses s.made in
      there s.made all _ (both uses (after_recovery form m) all (one_function _ uses) from_recovery)

  -- the symbol of an error
  pub error_symbol_method : slice_get all.functions numbers.error_recovery_symbol ≡ Some (Some (function 1 0 (recovery_rows (after_expected form m) form).symbol))
  error_symbol_method =
      let s = recovery_rows (after_expected form m) form in
      there (with_method 0 s.uses s.made) all _ from_recovery

module _ {made : Module} {last : Making} {machine : Form} (is : ModuleMade made last machine) where
  -- a method of the module
  pub method_there : (j : ℕ) (f : Function) → slice_get (with_methods machine is.names (length is.fields) last).functions j ≡ Some (Some f) → slice_get made.functions j ≡ Some f
  method_there j f h = ap (λ (fs : List Function). slice_get fs j) is.functions ∙ finished_there (with_methods machine is.names (length is.fields) last).functions j f h
