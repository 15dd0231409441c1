-- The call of the method: it ends with the list, or is spent.
use Rattle.std.proofs.Common.{◌≡◌, ℕ, suc, ◌+◌, ◌*◌, ◌≤◌, List, [], ◌∷◌, length, map, pos, Some, refl, ap, ◌∙◌, arith}
use Rattle.std.specs.Prelude.{slice_get}
use Rattle.std.specs.Option.{option_map}
use Rattle.lp_core.specs.declared.expr.Function.{Function}
use Rattle.lp_core.specs.declared.value.StateType.{StateType}
use Rattle.lp_core.specs.JoinMeaning.{list_val, texts_among, texts_of}
use Rattle.lp_core.specs.Store.{Program, UserCall}
use Rattle.lp_core.specs.Val.{Val}
use Rattle.lp_core.proofs.Values.{list_of_vals}
use Rattle.lp_driver.specs.Values.{Text}
use Rattle.lp_repr.specs.declared.lr1.Lr1State.{Lr1State}
use Rattle.lp_repr.specs.declared.repr.Grammar.{Grammar}
use Rattle.lp_machine.specs.Tables.{Tables}
use Rattle.lp_maker.specs.Constructs.{called}
use Rattle.lp_bodies.specs.Actions.{takes}
use Rattle.lp_bodies.specs.Source.{function}
use Rattle.lp_bodies.specs.Tables.{filtered}
use Rattle.lp_turns.specs.Readings.{cell_val}
use Rattle.lp_code_laws.specs.Ends.Cut.{Cut}
use Rattle.lp_code_laws.specs.Ends.Ends.{Moment, Enter, Giving, EndsIn}
use Rattle.lp_code_laws.proofs.Ends.Calls.{arguments_done, enter, joined_found}
use Rattle.lp_code_laws.proofs.Ends.Cuts.{cut_arguments, cut_call, cut_called, cut_enter}
use Rattle.lp_code_laws.proofs.Ends.Rules.{argument, call}
use Rattle.lp_code_laws.proofs.Ends.Values as values
use Rattle.lp_turn_laws.specs.Paths.Over.{IsOver}
use Rattle.lp_turn_laws.specs.Paths.Standing.{IsOnPath}
use Rattle.lp_question_laws.specs.Expected.Trials.{Collects, Lags}
use Rattle.lp_question_laws.proofs.Gotos.LinkTerminals.{AreNamed}
use Rattle.lp_question_laws.proofs.Expected.Accepts.{HasClosure, lent}
use Rattle.lp_question_laws.proofs.Expected.Filters.{held, collects_held, Filters, filters, Lates, lates}

-- the printed function, and the method that hands on to it
abbrev pub expected_code : ℕ → List ℕ → Function
expected_code closure texts = function 1 0 (filtered closure 0 texts)

abbrev pub hands_on_code : ℕ → Function
hands_on_code printed = function 1 0 (called (takes 1) (Some printed))

-- a program has the functions that an expected list is made by, and its method hands on to the first
pub record HasTrials (p : Program) (kind : StateType) (states : List Lr1State) (t : Tables) (method : ℕ) : Type 0 where
  pub keeps : HasClosure p kind states t
  pub texts : List ℕ
  pub named : AreNamed p.texts texts t.names
  pub printed : ℕ
  pub printed_there : slice_get p.functions printed ≡ Some (expected_code keeps.closure texts)
  pub method_there : slice_get p.functions method ≡ Some (hands_on_code printed)

module _ {g : Grammar} {start : ℕ} {states : List Lr1State} {t : Tables} (over : IsOver g start states t) {p : Program} {kind : StateType} {method : ℕ} (has : HasTrials p kind states t method) (stack : List ℕ) (path : IsOnPath states stack) (so_far : List UserCall) where
  -- the call that is asked
  abbrev pub asked_at : Moment
  asked_at = lent (map pos stack) so_far []

  -- it gives the list that so many looks find
  pub record Answers (n : ℕ) (list : List Text) : Type 0 where
    pub steps : ℕ
    pub few : steps ≤ 6 * n + 2
    pub value : Val
    pub read : texts_of p value ≡ Some list
    pub ends : EndsIn p (Enter method (cell_val 0 ∷ [])) asked_at steps (Giving value asked_at)

  answers_by : (n : ℕ) (list : List Text) → Filters over has.keeps stack path so_far 0 has.texts n list → Answers n list
  answers_by n list f = record {
    steps = suc (suc f.steps);
    few = omega (arith, f.few);
    value = list_val (held f.answers);
    read = ap (texts_among p []) (list_of_vals (held f.answers)) ∙ f.named [];
    ends = enter has.method_there refl (call (argument (values.take refl refl) (arguments_done
        (enter has.printed_there refl (call (f.ends [] _ (joined_found _ refl refl (ap (option_map list_val) (collects_held [] f.answers))))) refl)))) refl;
  }

  -- it is spent after at least so many steps
  pub record Lacks (n : ℕ) : Type 0 where
    pub steps : ℕ
    pub many : n ≤ steps
    pub cut : Cut p (Enter method (cell_val 0 ∷ [])) asked_at steps so_far

  lacks_by : (n : ℕ) → Lates over has.keeps stack path so_far 0 has.texts n → Lacks n
  lacks_by n l = record {
    steps = suc (suc l.steps);
    many = omega (arith, l.many);
    cut = cut_enter has.method_there refl (cut_call (cut_arguments (values.take refl refl) (cut_called (cut_enter has.printed_there refl (cut_call (l.cut []))))));
  }

  all_names : 0 + length t.names ≡ length t.names
  all_names = omega arith

  pub answers : (n : ℕ) (list : List Text) → Collects t stack 0 t.names n list → Answers n list
  answers n list c = answers_by n list (filters over has.keeps stack path so_far 0 has.texts t.names n list has.named all_names c)

  pub lacks : (n : ℕ) → Lags t stack 0 t.names n → Lacks n
  lacks n l = lacks_by n (lates over has.keeps stack path so_far 0 has.texts t.names n has.named all_names l)
