-- The code of a start's module.
use Rattle.std.specs.Prelude.{ℕ, Bool, List, Option, map}
use Rattle.lp_repr.specs.declared.values.RunItem.{RunItem}
use Rattle.lp_driver.specs.Values.{Text}
use Rattle.lp_core.specs.declared.expr.Function.{Function}
use Rattle.lp_core.specs.declared.expr.Table.{Table}
use Rattle.lp_core.specs.Store.{Program}
use Rattle.lp_maker.specs.Making.{Entries, entries_of}
use Rattle.lp_run.specs.ParseMethod.{Parse, parse_of}
use Rattle.lp_run.specs.declared.enter.Entered.{Entered}

pub record Module : Type 0 where
  pub functions : List Function
  pub tables : List Entries
  pub texts : List Text
  pub parse : Parse
  -- how many parameters the grammar has
  pub params : ℕ
  -- the closure of the token source; none where the items are tokens as they stand
  pub closure : Option ℕ
  -- whether items keep their locations
  pub located : Bool

-- the module that entered code stands for
abbrev pub module_of : Entered → Module
module_of e = record {
  functions = e.code.functions.items;
  tables = map entries_of e.code.tables.items;
  texts = e.code.texts.items;
  parse = parse_of e.parser;
  params = e.params;
  closure = e.closure;
  located = e.located;
}

-- a module with these tables on items, with what the parameters were given and the numbers of the calls that fail
abbrev pub program_on : Module → List Table → List RunItem → List Text → List ℕ → Program
program_on m tables items params failing = record {
  functions = m.functions;
  tables = tables;
  texts = m.texts;
  items = items;
  params = params;
  failing = failing;
  located = m.located;
}
