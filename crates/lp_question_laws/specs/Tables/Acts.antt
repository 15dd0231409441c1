-- What a call of an action's function does, as the tables' action says it.
use Rattle.std.specs.Prelude.{ℕ, ◌+◌, ◌*◌, ◌≤◌, Bool, true, false, List, [], ◌∷◌, ◌++◌, length, map, Result, Ok, Err}
use Rattle.lp_repr.specs.declared.values.Loc.{Loc}
use Rattle.lp_driver.specs.Values.{Spanned, Value, Failure}
use Rattle.lp_core.specs.declared.value.Tag.TheVariants as tag
use Rattle.lp_core.specs.Datum.{Parsed, Failed}
use Rattle.lp_core.specs.Reading.{location, triple, wrapped}
use Rattle.lp_core.specs.Store.{Program}
use Rattle.lp_core.specs.Val.{Val, Plain}
use Rattle.lp_machine.specs.declared.calls.Acted.{Acted}
use Rattle.lp_agrees.specs.Machine.{as_user}
use Rattle.lp_code_laws.specs.Ends.Ends.{Moment, moment, Enter, Giving, EndsIn}

-- a symbol's value with its span, as an argument
abbrev pub symbol_val : Spanned Value → Val
symbol_val x = triple x.0 (Plain (Parsed x.1)) x.2

-- the arguments: the grammar's parameters, then the symbols, or the place of none
abbrev pub arguments : List Val → List (Spanned Value) → Loc × Loc → List Val
arguments params [] place = params ++ location place.0 ∷ location place.1 ∷ []
arguments params (x ∷ xs) place = params ++ map symbol_val (x ∷ xs)

-- its value, which is a result where the action can fail
abbrev pub acted_val : Bool → Result Value Failure → Val
acted_val false (Ok v) = Plain (Parsed v)
acted_val true (Ok v) = wrapped tag.Success (Plain (Parsed v))
acted_val fallible (Err f) = wrapped tag.Failure (Plain (Failed f))

-- the call of a function ends as an action does, after the action's calls of user code, in so many steps for each of these and once more
pub record Acts (p : Program) (f : ℕ) (args : List Val) (fallible : Bool) (acted : Acted) (cost : ℕ) (m : Moment) : Type 0 where
  pub steps : ℕ
  pub few : steps ≤ cost * (length acted.calls + 1)
  pub ends : EndsIn p (Enter f args) m steps (Giving (acted_val fallible acted.result) (moment m.store (m.calls ++ map as_user acted.calls)))
