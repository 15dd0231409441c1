-- A machine over the valid tables of a start of a valid grammar.
use Rattle.std.specs.Prelude.{◌≡◌, ℕ, List, Some}
use Rattle.lp_repr.specs.ValidTables.{start_number, IsValidTables}
use Rattle.lp_repr.specs.declared.repr.Grammar.{Grammar}
use Rattle.lp_repr.specs.declared.lr1.Lr1State.{Lr1State}
use Rattle.lp_machine.specs.Tables.{Tables}
use Rattle.lp_valid.specs.ValidGrammar.{IsValidGrammar}
use Rattle.lp_turn_laws.specs.Paths.Standing.{LooksUp}

-- all that the lemmas on its paths take
pub record IsOver (g : Grammar) (start : ℕ) (states : List Lr1State) (t : Tables) : Type 0 where
  pub grammar : IsValidGrammar g
  pub tables : IsValidTables g start states
  pub number : ℕ
  pub begun : start_number g start ≡ Some number
  pub known : LooksUp g states t
