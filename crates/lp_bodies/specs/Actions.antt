-- The functions of actions.
use Rattle.std.specs.Prelude.{ℕ, zero, suc, ◌+◌, Bool, false, not, ◌&&◌, List, [], ◌∷◌, ◌++◌, length, codes, Option, Some, None, slice_get, if◌then◌else◌}
use Rattle.lp_core.specs.declared.expr.Function.{Function}
use Rattle.lp_core.specs.declared.expr.Join.TheVariants as join
use Rattle.lp_core.specs.Tree.{Tree}
use Rattle.lp_form.specs.declared.part.Part.TheVariants as part
use Rattle.lp_repr.specs.NormalCode.{norm_of}
use Rattle.lp_view.specs.PartLists.{Form, is_a, hole_of, parts_of, over}
use Rattle.lp_maker.specs.Texts.{Binding, Nothing, Triple, Named, begins, holds, bound_of}
use Rattle.lp_maker.specs.Slots.{Names, no_names}
use Rattle.lp_maker.specs.Constructs.{stuck, joined, take_slot, one_after_another, function_of}
use Rattle.lp_maker.specs.Making.{Making, with_text, read_name, parameters}
use Rattle.lp_bodies.specs.Lines.{Lines}
use Rattle.lp_bodies.specs.Inlining.{inline_lines}

-- how the type of a parse error begins, which no type of the grammar holds, since none has the prefix
abbrev pub parse_error : List ℕ → List ℕ
parse_error prefix = prefix ++ codes "lalrpop_util::ParseError<"

-- whether a printed type is a result with this in it
abbrev pub can_fail : List ℕ → List ℕ → Bool
can_fail error answer = begins (codes "Result<") answer && holds error answer

abbrev pub fallible_row : List ℕ → Bool → Form → Bool
fallible_row error before row = if is_a part.ResultType row then can_fail error (hole_of 0 row) else before

-- whether the function of this header can fail with what begins so
abbrev pub is_fallible : List ℕ → Form → Bool
is_fallible error header = over (fallible_row error) false (parts_of header)

-- whether a name is the grammar's own
abbrev pub is_own : List ℕ → Binding → Bool
is_own prefix Nothing = false
is_own prefix Triple = false
is_own prefix (Named name) = not (begins prefix name)

abbrev pub is_parameter : List ℕ → Form → Bool
is_parameter prefix row = is_a part.ParameterRow row && is_own prefix (bound_of (hole_of 0 row))

abbrev pub counted_row : List ℕ → ℕ → Form → ℕ
counted_row prefix count row = if is_parameter prefix row then count + 1 else count

-- how many parameters of the grammar this header has
abbrev pub parameter_count : List ℕ → Form → ℕ
parameter_count prefix header = over (counted_row prefix) 0 (parts_of header)

-- the first slots, each for the last time
abbrev pub takes : ℕ → List Tree
takes zero = []
takes (suc n) = takes n ++ take_slot n ∷ []

-- the code of a body without leading blanks, and `()` where nothing is left
abbrev pub code_of : Form → List ℕ
code_of body = norm_of (hole_of 0 body)

-- a call of user code, with all arguments of the function in order
abbrev pub user_call : Making → Form → Names → Tree
user_call m header names = joined (join.Event (length m.texts) (is_fallible (parse_error m.prefix) header) (parameter_count m.prefix header)) (takes names.next)

-- the value of a body, and the names that it leaves
pub record Body : Type 0 where
  pub value : Tree
  pub names : Names

abbrev pub body_of : Tree → Names → Body
body_of value names = record { value = value; names = names }

-- the lines' names, and their expressions one after another
abbrev pub body_of_lines : Lines → Body
body_of_lines l = body_of (one_after_another l.parts) l.names

-- a body that looks at no texts: the lookahead, the lookbehind or inlined actions
abbrev pub plain_body : Making → Names → Form → Body
plain_body m names body =
    if is_a part.LookaheadBody body then body_of (read_name names (codes "~lookahead")) names else (if is_a part.LookbehindBody body then body_of (read_name names (codes "~lookbehind")) names else (if is_a part.InlineBody body then body_of_lines (inline_lines m names body) else body_of stuck names))

abbrev pub action_body : Making → Form → Names → Form → Body
action_body m header names body =
    if is_a part.UserBody body then body_of (user_call m header names) names else plain_body m names body

abbrev pub found_body : Making → Form → Names → Option Form → Body
found_body m header names None = body_of stuck names
found_body m header names (Some body) = action_body m header names body

abbrev pub function_with : ℕ → Body → Function
function_with params b = function_of params b.names b.value

abbrev pub headed : Making → Form → Option Form → Function
headed m header body = function_with (parameters m.prefix header).next (found_body m header (parameters m.prefix header) body)

abbrev pub action_under : Making → Option Form → Option Form → Function
action_under m None body = function_of 0 no_names stuck
action_under m (Some header) body = headed m header body

-- the function of an action
abbrev pub action_function : Making → Form → Function
action_function m form = action_under m (slice_get (parts_of form) 0) (slice_get (parts_of form) 1)

-- the code of a body of user code is a text
abbrev pub with_code : Form → Making → Making
with_code body m = if is_a part.UserBody body then with_text (code_of body) m else m

abbrev pub with_found_code : Option Form → Making → Making
with_found_code None m = m
with_found_code (Some body) m = with_code body m

abbrev pub with_code_under : Option Form → Option Form → Making → Making
with_code_under None body m = m
with_code_under (Some header) body m = with_found_code body m

-- what is made after the function of an action
abbrev pub with_action : Form → Making → Making
with_action form m = with_code_under (slice_get (parts_of form) 0) (slice_get (parts_of form) 1) m
