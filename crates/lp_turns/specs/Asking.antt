-- What a program that is asked goes by.
use Rattle.std.specs.Prelude.{ℕ, List, Option}
use Rattle.lp_core.specs.Store.{Program}

-- the program on its items, and the parameters that the fields of the machine are, by number
pub record Asking : Type 0 where
  pub program : Program
  pub fields : List (Option ℕ)
