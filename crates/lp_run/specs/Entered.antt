-- What a whole program becomes under a public name: the code of the module that the name enters.
use Rattle.std.specs.Prelude.{◌≡◌, ℕ, Bool, List, map, Option, Some, None, if◌then◌else◌}
use Rattle.lp_tree.specs.declared.tree.Program.{Program}
use Rattle.lp_tree.specs.ProgramTree.{program_items}
use Rattle.lp_view.specs.PartLists.{Form}
use Rattle.lp_maker.specs.Slots.{Names}
use Rattle.lp_maker.specs.Making.{Making, unmade, finished}
use Rattle.lp_bodies.specs.Source.{with_item, item_number}
use Rattle.lp_run.specs.Named.{is_interned, parser_of}
use Rattle.lp_run.specs.Promised.{Beginning, Promising, beginning, module_rows}
use Rattle.lp_run.specs.Functions.{all_made, actions_made}
use Rattle.lp_run.specs.ParseMethod.{Parse, Parsing, parse_made, parameters_of}
use Rattle.lp_run.specs.Module.{Module, module_of}
use Rattle.lp_run.specs.declared.enter.Entered.{Entered}

-- the closure that makes triples of items
abbrev pub with_closure : Bool → Making → Making
with_closure located m = record (with_item located m) { item_closure = Some (item_number located m) }

-- a parser of an interned grammar has none; nor does what is no parser
abbrev pub sourced : Bool → Making → Option Form → Making
sourced located m None = with_closure located m
sourced located m (Some parser) = if is_interned parser then m else with_closure located m

abbrev pub with_source : Form → Bool → Making → Making
with_source items located m = sourced located m (parser_of items)

-- what `parse` does with all that was made, and the closure of the token source
pub record Ready : Type 0 where
  pub parsing : Parsing
  pub closure : Option ℕ

abbrev pub ready_of : Option ℕ → Parsing → Ready
ready_of closure parsing = record { parsing = parsing; closure = closure }

-- the `parse` method comes last
abbrev pub with_parse : Form → Names → Making → Ready
with_parse items names m = ready_of m.item_closure (parse_made m items names)

-- the functions of actions come after those of the module
abbrev pub with_functions : Form → Names → List (ℕ × Form) → Promising → Ready
with_functions items names actions s = with_parse items names (actions_made (all_made s.made s.promises) actions)

unfoldable pub made_after : Form → Names → Beginning → Ready
made_after items names b = with_functions items names b.actions.promises (module_rows (with_source items b.located b.actions.made) items)

abbrev pub finished_module : ℕ → Bool → Ready → Module
finished_module params located r = record {
  functions = map finished r.parsing.made.functions;
  tables = r.parsing.made.tables;
  texts = r.parsing.made.texts;
  parse = r.parsing.parse;
  params = params;
  closure = r.closure;
  located = located;
}

abbrev pub module_with : Form → Names → Beginning → Module
module_with items names b = finished_module names.next b.located (made_after items names b)

-- the code of these items of a program, which has this prefix
unfoldable pub module_made : List ℕ → Form → Form → Module
module_made prefix program items = module_with items (parameters_of prefix items) (beginning (unmade prefix) program)

abbrev pub module_in : Program → Form → Module
module_in program items = module_made program.prefix (program_items program) items

-- how many parameters the grammar has
abbrev pub parameter_count : Program → Form → ℕ
parameter_count program items = (parameters_of program.prefix items).next

-- the code that was entered for these items
pub record Enters (program : Program) (items : Form) (e : Entered) : Type 0 where
  pub params : e.params ≡ parameter_count program items
  pub code : module_of e ≡ module_in program items

-- code was entered for the items that there are
abbrev pub EntersSome : Program → Option Form → Entered → Type 0
EntersSome program None e = ⊥
EntersSome program (Some items) e = Enters program items e
