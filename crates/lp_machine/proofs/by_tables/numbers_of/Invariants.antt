use Rattle.std.proofs.Common.{◌≡◌, map, take}
use Rattle.lp_machine.specs.TableAnswers.{number_of}
use Rattle.lp_machine.proofs.by_tables.numbers_of.Given as goal

abbrev pub invariant-loop-state : goal.invariant-loop-state
invariant-loop-state l = l.numbers ≡ map number_of (take l.state-index l.states)
