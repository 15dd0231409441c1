-- Functions that are declared first and made afterwards, so that each can call each.
use Rattle.std.specs.Prelude.{ℕ, ◌||◌, Bool, false, List, [], ◌∷◌, ◌++◌, codes, length, map, Option, Some, None, slice_get, if◌then◌else◌}
use Rattle.lp_form.specs.declared.part.Part.TheVariants as part
use Rattle.lp_view.specs.PartLists.{Form, is_a, hole_of, parts_of, over, listed}
use Rattle.lp_view.specs.declared.part.PartRef.{PartRef}
use Rattle.lp_maker.specs.Making.{Making, declared, with_table}
use Rattle.lp_bodies.specs.Source.{is_located}
use Rattle.lp_bodies.specs.Tables.{printed_table, with_terminals}

-- a form that is to be a function, with its number
abbrev pub promise_of : ℕ × PartRef → ℕ × Form
promise_of r = (r.0, listed r.1)

abbrev pub promises_of : List (ℕ × PartRef) → List (ℕ × Form)
promises_of l = map promise_of l

-- what was made so far, and what is to be made
pub record Promising : Type 0 where
  pub promises : List (ℕ × Form)
  pub made : Making

abbrev pub promising_of : List (ℕ × Form) → Making → Promising
promising_of promises made = record { promises = promises; made = made }

-- a form under a name, which has two parts
abbrev pub promised : List ℕ → List ℕ → Promising → Form → Promising
promised name rest s form = promising_of (s.promises ++ (length s.made.functions, form) ∷ []) (declared (name ++ rest) s.made)

-- the printed number of a function with a header
abbrev pub number_under : Option Form → List ℕ
number_under None = []
number_under (Some header) = hole_of 0 header

abbrev pub header_number : Form → List ℕ
header_number form = number_under (slice_get (parts_of form) 0)

-- what stands beside the modules: whether items keep their locations, and the actions
pub record Beginning : Type 0 where
  pub located : Bool
  pub actions : Promising

abbrev pub beginning_of : Bool → List (ℕ × Form) → Making → Beginning
beginning_of located promises made = record { located = located; actions = promising_of promises made }

abbrev pub is_source : Form → Bool
is_source form = is_located form || (is_a part.ToTriplePlain form || is_a part.ToTriplePlainWhere form)

abbrev pub is_user_action : Form → Bool
is_user_action form = is_a part.ActionFn form || is_a part.ActionFnUnused form

abbrev pub is_action : Form → Bool
is_action form = is_user_action form || (is_a part.Lookaround form || is_a part.LookaroundUnused form)

abbrev pub with_action_form : Beginning → Form → Beginning
with_action_form b form = record b { actions = promised (codes "super::action") (header_number form) b.actions form }

abbrev pub beginning_row : Beginning → Form → Beginning
beginning_row b form =
    if is_source form then record b { located = is_located form } else (if is_action form then with_action_form b form else b)

-- what the parts of a program begin with
abbrev pub beginning : Making → Form → Beginning
beginning m form = over beginning_row (beginning_of false [] m) (parts_of form)

-- the functions that look at tables and tokens
abbrev pub is_action_lookup : Form → Bool
is_action_lookup form = is_a part.ActionLookup form || is_a part.ActionLookupOne form

abbrev pub is_token_lookup : Form → Bool
is_token_lookup form = is_a part.TokenToInteger form || is_a part.TokenToSymbol form

abbrev pub is_lookup : Form → Bool
is_lookup form = is_action_lookup form || (is_a part.GotoFn form || is_token_lookup form)

abbrev pub lookup_name : Form → List ℕ
lookup_name form =
    if is_action_lookup form then codes "action" else (if is_a part.GotoFn form then codes "goto" else (if is_a part.TokenToInteger form then codes "token_to_integer" else codes "token_to_symbol"))

-- those that try stacks of states
abbrev pub is_expected : Form → Bool
is_expected form = is_a part.Expected form || is_a part.ExpectedFromStates form

abbrev pub is_trial : Form → Bool
is_trial form = is_expected form || (is_a part.SimulateReduce form || is_a part.Accepts form)

abbrev pub trial_name : Form → List ℕ
trial_name form =
    if is_a part.Expected form then codes "expected_tokens" else (if is_a part.ExpectedFromStates form then codes "expected_tokens_from_states" else (if is_a part.SimulateReduce form then codes "simulate_reduce" else codes "accepts"))

-- those that reduce, whose names may end in a variant or a number
abbrev pub is_numbered : Form → Bool
is_numbered form = is_a part.Pop form || is_a part.ReduceFn form

abbrev pub is_reduction : Form → Bool
is_reduction form = is_numbered form || (is_a part.Reduce form || is_a part.Mismatch form)

abbrev pub promised_reduction : Promising → Form → Promising
promised_reduction s form =
    if is_a part.Pop form then promised (codes "pop_") (hole_of 0 form) s form else (if is_a part.ReduceFn form then promised (codes "reduce") (header_number form) s form else (if is_a part.Reduce form then promised (codes "reduce") [] s form else promised (codes "symbol_type_mismatch") [] s form))

-- those of recursive ascent
abbrev pub is_ascent_trial : Form → Bool
is_ascent_trial form = is_a part.AscentSimulate form || (is_a part.AscentAccepts form || is_a part.AscentExpected form)

abbrev pub is_ascent : Form → Bool
is_ascent form = is_a part.StateFn form || is_ascent_trial form

abbrev pub promised_ascent : Promising → Form → Promising
promised_ascent s form =
    if is_a part.StateFn form then promised (codes "state") (header_number form) s form else (if is_a part.AscentSimulate form then promised (codes "simulate") [] s form else (if is_a part.AscentAccepts form then promised (codes "accepts") [] s form else promised (codes "expected") [] s form))

-- a function of a module is declared
abbrev pub declared_row : Promising → Form → Promising
declared_row s form =
    if is_lookup form then promised (lookup_name form) [] s form else (if is_trial form then promised (trial_name form) [] s form else (if is_reduction form then promised_reduction s form else (if is_ascent form then promised_ascent s form else s)))

abbrev pub with_action_table : Form → Making → Making
with_action_table form m = record (with_table (printed_table form) m) { action_table = length m.tables }

abbrev pub with_eof_table : Form → Making → Making
with_eof_table form m = record (with_table (printed_table form) m) { eof_table = length m.tables }

-- a table or the terminals are made at once
abbrev pub module_row : Promising → Form → Promising
module_row s form =
    if is_a part.ActionTable form then promising_of s.promises (with_action_table form s.made) else (if is_a part.EofTable form then promising_of s.promises (with_eof_table form s.made) else (if is_a part.TerminalList form then promising_of s.promises (with_terminals form s.made) else declared_row s form))

-- the functions of a module, declared
abbrev pub module_rows : Making → Form → Promising
module_rows m items = over module_row (promising_of [] m) (parts_of items)
