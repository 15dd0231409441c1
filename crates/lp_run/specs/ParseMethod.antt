-- The `parse` method: its parameters, and what it does.
use Rattle.std.specs.Prelude.{ℕ, ◌-◌, ◌^◌, List, [], ◌∷◌, ◌++◌, codes, length, Option, Some, None, if◌then◌else◌}
use Rattle.std.specs.Str.{bytes_eq}
use Rattle.lp_form.specs.declared.part.Part.TheVariants as part
use Rattle.lp_view.specs.PartLists.{Form, is_a, hole_of, parts_of, over, first_that}
use Rattle.lp_maker.specs.declared.methods.Methods.{Methods}
use Rattle.lp_maker.specs.Slots.{Names, no_names, bound, slot_of}
use Rattle.lp_maker.specs.Texts.{Binding, Nothing, Triple, Named, bound_of, plain}
use Rattle.lp_maker.specs.Making.{Making, with_function}
use Rattle.lp_bodies.specs.MachineMethods.{methods_of, with_methods}
use Rattle.lp_bodies.specs.Reductions.{Done, function_done}
use Rattle.lp_ascent_bodies.specs.AscentStarts.{start}
use Rattle.lp_run.specs.Named.{parser_of}
use Rattle.lp_run.specs.declared.parse.Parser.{Parser}
use Rattle.lp_run.specs.declared.parse.Parser.TheVariants as parser

-- what the `parse` method does
pub data Parse : Type 0 where
  -- it calls the driver over the methods, with the parameters of these numbers as fields
  By_driver : (methods : Methods) (fields : List (Option ℕ)) → Parse
  -- it calls the function of this number
  By_call : (function : ℕ) → Parse

abbrev pub parse_of : Parser → Parse
parse_of (parser.Drive methods fields) = By_driver methods fields.items
parse_of (parser.Ascent f) = By_call f

-- a number that no function has
abbrev pub no_call : Parse
no_call = By_call (2 ^ 64 - 1)

-- a parameter of the grammar; the tokens are none
abbrev pub with_parameter : List ℕ → Names → Names
with_parameter name names = if bytes_eq name (codes "~tokens0") then names else bound name names

abbrev pub with_binding : List ℕ → Names → Binding → Names
with_binding prefix names Nothing = names
with_binding prefix names Triple = names
with_binding prefix names (Named name) = with_parameter (plain prefix name) names

abbrev pub parameter_row : List ℕ → Names → Form → Names
parameter_row prefix names row = if is_a part.ParameterRow row then with_binding prefix names (bound_of (hole_of 0 row)) else names

abbrev pub header_names : List ℕ → Option Form → Names
header_names prefix None = no_names
header_names prefix (Some header) = over (parameter_row prefix) no_names (parts_of header)

-- the parameters of the grammar, of the parser among items
abbrev pub parser_names : List ℕ → Option Form → Names
parser_names prefix None = no_names
parser_names prefix (Some form) = header_names prefix (first_that (is_a part.HeaderParse) (parts_of form))

unfoldable pub parameters_of : List ℕ → Form → Names
parameters_of prefix items = parser_names prefix (parser_of items)

-- the fields of the machine: for each the number of the parameter that it is, and their names
pub record Fields : Type 0 where
  pub numbers : List (Option ℕ)
  pub names : Names

abbrev pub fields_of : List (Option ℕ) → Names → Fields
fields_of numbers names = record { numbers = numbers; names = names }

abbrev pub field_row : Names → Fields → Form → Fields
field_row names f row = fields_of (f.numbers ++ slot_of (hole_of 0 row) names ∷ []) (bound (hole_of 0 row) f.names)

abbrev pub fields : Names → Form → Fields
fields names form = over (field_row names) (fields_of [] no_names) (parts_of form)

-- what `parse` does, and what was made then
pub record Parsing : Type 0 where
  pub parse : Parse
  pub made : Making

abbrev pub parsing_of : Parse → Making → Parsing
parsing_of parse made = record { parse = parse; made = made }

-- the driver over the methods of the machine, if it is there
abbrev pub driving : Making → Fields → Option Form → Parsing
driving m f None = parsing_of no_call m
driving m f (Some machine) =
    parsing_of (By_driver (methods_of machine f.names (length f.numbers) m) f.numbers) (with_methods machine f.names (length f.numbers) m)

abbrev pub driven_by : Making → Form → Names → Form → Parsing
driven_by m items names form = driving m (fields names form) (first_that (is_a part.MachineImpl) (parts_of items))

-- a call of a function without a name, which comes last
abbrev pub by_function : ℕ → Done → Parsing
by_function params d = parsing_of (By_call (length d.made.functions)) (with_function (Some (function_done params d)) d.made)

-- the start of recursive ascent is such a function, of the parameters
abbrev pub start_function : Making → Names → Form → Parsing
start_function m names form = by_function names.next (start m names form)

abbrev pub started : Making → Names → Option Form → Parsing
started m names None = parsing_of no_call m
started m names (Some form) = start_function m names form

abbrev pub called : Making → Form → Names → Form → Option Form → Parsing
called m items names form None = started m names (first_that (is_a part.Start) (parts_of form))
called m items names form (Some drive) = driven_by m items names drive

abbrev pub parser_called : Making → Form → Names → Option Form → Parsing
parser_called m items names None = parsing_of no_call m
parser_called m items names (Some form) = called m items names form (first_that (is_a part.Drive) (parts_of form))

-- what the `parse` method of items does
unfoldable pub parse_made : Making → Form → Names → Parsing
parse_made m items names = parser_called m items names (parser_of items)
