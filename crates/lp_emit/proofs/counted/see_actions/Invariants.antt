-- The symbols of the actions so far are counted.
use Rattle.std.proofs.Common.{take}
use Rattle.std.specs.Prelude.{All}
use Rattle.lp_back_end_laws.specs.Filled.InMemory.{IsActionInMemory}
use Rattle.lp_emit.proofs.counted.see_actions.Given as goal

abbrev pub invariant-loop-action : goal.invariant-loop-action
invariant-loop-action l = All IsActionInMemory (take l.action-index l.actions)
