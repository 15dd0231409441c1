use Rattle.std.proofs.Common.{ℕ, ◌<◌}
use Rattle.lp_tables.specs.Gathering.{known_by}
use Rattle.lp_tables.specs.TableRules.{Says}
use Rattle.lp_tables.specs.declared.check.TableRule.{TableRule}
use Rattle.lp_tables.proofs.check.check_tables.Given as goal

abbrev pub invariant-loop-state : goal.invariant-loop-state
invariant-loop-state l = (i : ℕ) → i < l.state → (r : TableRule) → Says (known_by l.tables) l.tables.states.now r i
