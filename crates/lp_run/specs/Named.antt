-- The module that a public name enters.
use Rattle.std.specs.Prelude.{ℕ, ◌||◌, Bool, List, Option, Some, None, if◌then◌else◌}
use Rattle.std.specs.Str.{bytes_eq}
use Rattle.lp_form.specs.declared.part.Part.TheVariants as part
use Rattle.lp_tree.specs.declared.tree.Program.{Program}
use Rattle.lp_tree.specs.ProgramTree.{program_items}
use Rattle.lp_view.specs.PartLists.{Form, is_a, hole_of, parts_of, first_that, first_given}

-- the items of table-driven code, or of recursive ascent
abbrev pub is_items : Form → Bool
is_items form = is_a part.TableItems form || is_a part.AscentItems form

-- a parser of an interned grammar
abbrev pub is_interned : Form → Bool
is_interned form = is_a part.TableParserInterned form || is_a part.AscentParserInterned form

abbrev pub is_plain : Form → Bool
is_plain form = is_a part.TableParserPlain form || is_a part.AscentParserPlain form

abbrev pub is_parser : Form → Bool
is_parser form = is_interned form || is_plain form

-- the parser among items
abbrev pub parser_of : Form → Option Form
parser_of items = first_that is_parser (parts_of items)

-- items whose parser has this name
abbrev pub named_by : List ℕ → Form → Option Form → Option Form
named_by start items None = None
named_by start items (Some parser) = if bytes_eq (hole_of 1 parser) start then Some items else None

abbrev pub named_items : List ℕ → Option Form → Option Form
named_items start None = None
named_items start (Some items) = named_by start items (parser_of items)

-- the items of a parse module under this name
abbrev pub entered_by : List ℕ → Form → Option Form
entered_by start form = if is_a part.ParseModule form then named_items start (first_that is_items (parts_of form)) else None

abbrev pub items_under : List ℕ → Form → Option Form
items_under start form = first_given (entered_by start) (parts_of form)

-- the items of the first parse module under a name
abbrev pub named : Program → List ℕ → Option Form
named program start = items_under start (program_items program)
