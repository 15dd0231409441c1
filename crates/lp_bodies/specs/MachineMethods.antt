-- What the driver asks: the methods of the machine.
use Rattle.std.specs.Prelude.{ℕ, ◌+◌, ◌-◌, ◌^◌, min, pos, Bool, true, false, nat_le, List, [], ◌∷◌, ◌++◌, length, codes, Option, Some, None, if◌then◌else◌}
use Rattle.lp_core.specs.declared.expr.Leaf.TheVariants as leaf
use Rattle.lp_core.specs.declared.expr.Op.TheVariants as op
use Rattle.lp_core.specs.Tree.{Tree, Plain, Apply}
use Rattle.lp_form.specs.declared.part.Part.TheVariants as part
use Rattle.lp_view.specs.PartLists.{Form, is_a, hole_of, parts_of, over}
use Rattle.lp_maker.specs.declared.methods.Methods.{Methods}
use Rattle.lp_maker.specs.Numbers.{number_of}
use Rattle.lp_maker.specs.Slots.{Names}
use Rattle.lp_maker.specs.Texts.{cut_at, state_type_of}
use Rattle.lp_maker.specs.Constructs.{stuck, take_slot, state, index}
use Rattle.lp_maker.specs.Making.{Making, with_function, with_variant, variant_tag, call_named, read_name}
use Rattle.lp_bodies.specs.Actions.{takes}
use Rattle.lp_bodies.specs.Source.{function, default_location}
use Rattle.lp_bodies.specs.Trials.{eof_entry}

-- a method is a function without a name
abbrev pub with_method : ℕ → Tree → Making → Making
with_method params body m = with_function (Some (function params 0 body)) m

-- a method that hands its arguments on
abbrev pub handed_on : List ℕ → ℕ → Making → Making
handed_on name params m = with_method params (call_named name (takes params) m) m

abbrev pub difference : ℕ → ℕ → Option ℕ
difference m n = if nat_le n m then Some (m - n) else None

abbrev pub less_found : Option ℕ → Option ℕ → Option ℕ
less_found None less = None
less_found (Some count) None = None
less_found (Some count) (Some less) = difference count less

abbrev pub last_in : List ℕ → Option (List ℕ × List ℕ) → Option ℕ
last_in text None = number_of text
last_in text (Some cut) = less_found (number_of cut.0) (number_of cut.1)

-- a number, or a number and ` - 1`
abbrev pub last_terminal : List ℕ → Option ℕ
last_terminal text = last_in text (cut_at (codes " - ") text)

-- the action on the error terminal, whose number is printed
abbrev pub error_action : Form → Making → Tree
error_action form m = call_named (codes "action") (take_slot 0 ∷ index (last_terminal (hole_of 9 form)) ∷ []) m

-- whether the machine recovers, the symbol of an error, and what was made
pub record Recovering : Type 0 where
  pub uses : Tree
  pub symbol : Tree
  pub made : Making

abbrev pub recovering_of : Tree → Tree → Making → Recovering
recovering_of uses symbol made = record { uses = uses; symbol = symbol; made = made }

abbrev pub recovery_row : Recovering → Form → Recovering
recovery_row s row =
    if is_a part.RecoveryOn row then recovering_of (Plain (leaf.Bool true)) (Apply (op.Wrap (variant_tag (hole_of 0 row) s.made)) (take_slot 0)) (with_variant (hole_of 0 row) s.made) else (if is_a part.RecoveryOff row then recovering_of (Plain (leaf.Bool false)) s.symbol s.made else s)

abbrev pub recovery_rows : Making → Form → Recovering
recovery_rows m form = over recovery_row (recovering_of stuck stuck m) (parts_of form)

abbrev pub with_recovery_of : Recovering → Making
with_recovery_of s = with_method 1 s.symbol (with_method 0 s.uses s.made)

abbrev pub with_recovery : Form → Making → Making
with_recovery form m = with_recovery_of (recovery_rows m form)

-- the fields that a reduction is handed, which stand in the first slots
abbrev pub field_row : Names → List Tree → Form → List Tree
field_row fields args row = if is_a part.SelfRow row then args ++ read_name fields (hole_of 0 row) ∷ [] else args

abbrev pub field_rows : Names → Form → List Tree
field_rows fields form = over (field_row fields) [] (parts_of form)

-- `~reduce(self.param, .., action, start_location, states, symbols)`
abbrev pub reduce_arguments : Names → ℕ → Form → List Tree
reduce_arguments fields count form =
    field_rows fields form ++ take_slot count ∷ take_slot (count + 1) ∷ take_slot (count + 2) ∷ take_slot (count + 3) ∷ []

abbrev pub with_reduce_method : Form → Names → ℕ → Making → Making
with_reduce_method form fields count m =
    with_method (count + 4) (call_named (codes "reduce") (reduce_arguments fields count form) m) m

-- what was made after each of the methods, in their order
abbrev pub after_location : Making → Making
after_location m = with_method 0 default_location m

abbrev pub after_state : Form → Making → Making
after_state form m = with_method 0 (state (state_type_of (hole_of 7 form)) (Some (pos 0))) (after_location m)

abbrev pub after_index : Form → Making → Making
after_index form m = handed_on (codes "token_to_integer") 1 (after_state form m)

abbrev pub after_action : Form → Making → Making
after_action form m = handed_on (codes "action") 2 (after_index form m)

abbrev pub with_error_action : Form → Making → Making
with_error_action form m = with_method 1 (error_action form m) m

abbrev pub after_error : Form → Making → Making
after_error form m = with_error_action form (after_action form m)

abbrev pub with_eof_action : Making → Making
with_eof_action m = with_method 1 (eof_entry m (take_slot 0)) m

abbrev pub after_eof : Form → Making → Making
after_eof form m = with_eof_action (after_error form m)

abbrev pub after_goto : Form → Making → Making
after_goto form m = handed_on (codes "goto") 2 (after_eof form m)

abbrev pub after_symbol : Form → Making → Making
after_symbol form m = handed_on (codes "token_to_symbol") 2 (after_goto form m)

abbrev pub after_expected : Form → Making → Making
after_expected form m = handed_on (codes "expected_tokens_from_states") 1 (after_symbol form m)

abbrev pub after_recovery : Form → Making → Making
after_recovery form m = with_recovery form (after_expected form m)

abbrev pub after_reduce : Form → Names → ℕ → Making → Making
after_reduce form fields count m = with_reduce_method form fields count (after_recovery form m)

abbrev pub with_methods : Form → Names → ℕ → Making → Making
with_methods form fields count m = handed_on (codes "simulate_reduce") 1 (after_reduce form fields count m)

-- the number of the method that says whether the machine recovers, and of the symbol of an error
abbrev pub uses_number : Form → Making → ℕ
uses_number form m = length (recovery_rows m form).made.functions

abbrev pub symbol_number_of : Recovering → ℕ
symbol_number_of s = length (with_method 0 s.uses s.made).functions

abbrev pub symbol_number : Form → Making → ℕ
symbol_number form m = symbol_number_of (recovery_rows m form)

abbrev pub next_number : Making → ℕ
next_number m = length m.functions

-- the numbers of the methods
abbrev pub methods_of : Form → Names → ℕ → Making → Methods
methods_of form fields count m = record {
  state_type = state_type_of (hole_of 7 form);
  start_location = next_number m;
  start_state = next_number (after_location m);
  token_to_index = next_number (after_state form m);
  action = next_number (after_index form m);
  error_action = next_number (after_action form m);
  eof_action = next_number (after_error form m);
  goto = next_number (after_eof form m);
  token_to_symbol = next_number (after_goto form m);
  expected_tokens_from_states = next_number (after_symbol form m);
  uses_error_recovery = uses_number form (after_expected form m);
  error_recovery_symbol = symbol_number form (after_expected form m);
  reduce = next_number (after_recovery form m);
  simulate_reduce = next_number (after_reduce form fields count m);
}
