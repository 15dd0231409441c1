-- The two lists that a reduction works on, and the symbols that it takes off.
use Rattle.std.specs.Prelude.{ℕ, ℤ, List, [], ◌∷◌}
use Rattle.lp_driver.specs.Values.{Spanned, Value}
use Rattle.lp_core.specs.declared.value.Tag.TheVariants as tag
use Rattle.lp_core.specs.Datum.{Parsed}
use Rattle.lp_core.specs.Reading.{wrapped}
use Rattle.lp_core.specs.Store.{Held, States, Symbols, UserCall}
use Rattle.lp_core.specs.Val.{Val, Plain}
use Rattle.lp_code_laws.specs.Ends.Ends.{Moment, moment}

-- the cells: the states, and then the symbols
abbrev pub two : List ℤ → List (Spanned Val) → List Held
two states symbols = States states ∷ Symbols symbols ∷ []

-- a moment over these cells
abbrev pub over_two : List Val → ℕ → List UserCall → List ℤ → List (Spanned Val) → Moment
over_two env taken calls states symbols = moment (record { env = env; cells = two states symbols; taken = taken }) calls

-- a symbol: the text and the number of its variant, and its value with its span
pub record Symbol : Type 0 where
  pub variant : List ℕ
  pub number : ℕ
  pub item : Spanned Value

-- as it stands on the list
abbrev pub on_stack : Symbol → Spanned Val
on_stack x = (x.item.0, wrapped (tag.Variant x.number) (Plain (Parsed x.item.1)), x.item.2)
