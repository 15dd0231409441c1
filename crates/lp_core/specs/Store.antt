-- What a run changes, and what it goes by.
use Rattle.std.specs.Prelude.{ℕ, ℤ, Bool, List, map, Option}
use Rattle.lp_repr.specs.declared.values.Loc.{Loc}
use Rattle.lp_repr.specs.declared.values.RunItem.{RunItem}
use Rattle.lp_repr.specs.declared.values.Term.{Term}
use Rattle.lp_repr.specs.declared.values.Event.{Event}
use Rattle.lp_driver.specs.Values as parse
use Rattle.lp_driver.specs.Values.{Text, Spanned, value_of}
use Rattle.lp_core.specs.declared.expr.Function.{Function}
use Rattle.lp_core.specs.declared.expr.Table.{Table}
use Rattle.lp_core.specs.declared.cell.Cell.{Cell}
use Rattle.lp_core.specs.declared.cell.Cell.TheVariants as c
use Rattle.lp_core.specs.declared.world.Setting.{Setting}
use Rattle.lp_core.specs.declared.world.World.{World}
use Rattle.lp_core.specs.Val.{Val}

-- a cell holds an option or a list
pub data Held : Type 0 where
  Slot : (slot : Option Val) → Held
  States : (states : List ℤ) → Held
  Symbols : (symbols : List (Spanned Val)) → Held

-- the slots of the call, the cells, and how many items were taken
pub record Store : Type 0 where
  pub env : List Val
  pub cells : List Held
  pub taken : ℕ

-- a call of user code
pub record UserCall : Type 0 where
  pub number : ℕ
  pub code : Text
  pub params : List Text
  pub args : List (Spanned parse.Value)
  pub place : Option (Loc × Loc)

-- the functions, tables and texts of a program, and what it is run on
pub record Program : Type 0 where
  pub functions : List Function
  pub tables : List Table
  pub texts : List Text
  pub items : List RunItem
  pub params : List Text
  -- the numbers of the calls that fail
  pub failing : List ℕ
  -- whether items have the locations that they were given
  pub located : Bool

abbrev pub held : Cell → Held
held (c.Slot slot) = Slot slot
held (c.States states) = States states.items
held (c.Symbols symbols) = Symbols symbols.items

abbrev pub spanned_value : Loc × Term × Loc → Spanned parse.Value
spanned_value x = (x.0, value_of x.1, x.2)

-- the call that an event tells of
abbrev pub call_of : Event → UserCall
call_of e = record { number = e.number; code = e.code; params = e.params; args = map spanned_value e.args; place = e.place }

abbrev pub store_of : World → Store
store_of w = record { env = w.env.items; cells = map held w.cells.items; taken = w.taken }

abbrev pub calls_of : World → List UserCall
calls_of w = map call_of w.events.items

abbrev pub program_of : Setting → Program
program_of s = record {
  functions = s.code.now.functions.items;
  tables = s.code.now.tables.items;
  texts = s.code.now.texts.items;
  items = s.items.now;
  params = s.params.now;
  failing = s.failing.now;
  located = s.located;
}
