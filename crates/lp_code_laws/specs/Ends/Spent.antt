-- A run that a budget cuts short.
use Rattle.std.specs.Prelude.{◌≡◌, List}
use Rattle.lp_core.specs.Store.{UserCall}
use Rattle.lp_core.specs.Flow.{Flow, Spent}
use Rattle.lp_core.specs.Prefix.{IsPrefix}
use Rattle.lp_code_laws.specs.Ends.Ends.{Outcome, Giving, Returning}

-- the calls of user code until then
abbrev pub calls_at : Outcome → List UserCall
calls_at (Giving v m) = m.calls
calls_at (Returning v m) = m.calls

-- it is spent, after calls that the other's begin with
pub record SpentBefore (fl : Flow) (o : Outcome) : Type 0 where
  pub calls : List UserCall
  pub is : fl ≡ Spent calls
  pub first : IsPrefix calls (calls_at o)
