-- What a refusal of tables tells.
use Rattle.std.specs.Prelude.{ℕ, ◌<◌, ◌≤◌, List}
use Rattle.lp_repr.specs.ValidTables.{IsValidTables}
use Rattle.lp_repr.specs.declared.lr1.Lr1State.{Lr1State}
use Rattle.lp_repr.specs.declared.repr.Grammar.{Grammar}
use Rattle.lp_tables.specs.TableRules.{known_of, IsLeastFailure}
use Rattle.lp_tables.specs.declared.check.TableFault.{TableFault}
use Rattle.lp_tables.specs.declared.check.TableFault.TheVariants.{Rule, Memory}

-- the tables aren't valid: the rule is the least that fails at the state, and the state the least at which one fails
abbrev pub RefusesTables : Grammar → ℕ → List Lr1State → TableFault → Type 0
RefusesTables g start states (Rule rule state) = (¬ IsValidTables g start states) × IsLeastFailure (known_of g start) states rule state
RefusesTables g start states Memory = Unit {0}

-- where there is a state, a refusal names a rule from the second on and one of the states
abbrev pub NamesTableRule : ℕ → TableFault → Type 0
NamesTableRule states (Rule rule state) = (2 ≤ rule) × (rule ≤ 8) × (state < states)
NamesTableRule states Memory = Unit {0}
