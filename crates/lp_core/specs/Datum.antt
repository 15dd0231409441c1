-- Values without parts.
use Rattle.std.specs.Prelude.{ℕ, ℤ, Bool}
use Rattle.lp_repr.specs.declared.values.UserError.{UserError}
use Rattle.lp_driver.specs.Values.{Value, Failure, value_of}
use Rattle.lp_core.specs.declared.value.StateType.{StateType}
use Rattle.lp_core.specs.declared.value.Atom.{Atom}
use Rattle.lp_core.specs.declared.value.Atom.TheVariants as atom

-- an atom, whatever box it is kept in
pub data Datum : Type 0 where
  Unset : Datum
  Truth : (b : Bool) → Datum
  Index : (n : ℕ) → Datum
  Number : (kind : StateType) (n : ℤ) → Datum
  Parsed : (value : Value) → Datum
  Failed : (failure : Failure) → Datum
  Blamed : (error : UserError) → Datum
  -- a text of the program, what a parameter was given, and a cell, by number
  Written : (n : ℕ) → Datum
  Param : (n : ℕ) → Datum
  Cell : (n : ℕ) → Datum

abbrev pub datum_of : Atom → Datum
datum_of atom.Unset = Unset
datum_of (atom.Bool b) = Truth b
datum_of (atom.Index n) = Index n
datum_of (atom.State kind n) = Number kind n
datum_of (atom.Term term) = Parsed (value_of term)
datum_of (atom.Error failure) = Failed failure.value
datum_of (atom.User error) = Blamed error
datum_of (atom.Text n) = Written n
datum_of (atom.Param n) = Param n
datum_of (atom.Cell n) = Cell n
