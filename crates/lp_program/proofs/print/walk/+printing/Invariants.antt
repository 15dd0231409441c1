-- What is left to print: the steps that are left over what is below from a place on, and a run from a place on.
use Rattle.std.proofs.Common.{◌-◌, length, ◌+◌, ◌*◌}
use Rattle.lp_write.specs.Writes.{writing}
use Rattle.lp_program.proofs.Runs.{Runs}
use Rattle.lp_program.proofs.Stepping.{Steps}
use Rattle.lp_program.proofs.print.walk.+printing.Given as goal

abbrev pub decreases-print_part : goal.decreases-print_part
decreases-print_part g l = 4 * length l.below.now + 4

abbrev pub decreases-print_step : goal.decreases-print_step
decreases-print_step g l = 4 * length l.below.now + 3

abbrev pub decreases-print_first : goal.decreases-print_first
decreases-print_first g l = 4 * length l.below.now + 2

abbrev pub decreases-print_run : goal.decreases-print_run
decreases-print_run g l = 4 * length l.below.now + 2

abbrev pub decreases-print_tree : goal.decreases-print_tree
decreases-print_tree g l = 4 * length l.below.now + 1

abbrev pub invariant-print_part-loop-step : goal.invariant-print_part-loop-step
invariant-print_part-loop-step g l =
    Steps l.prefix l.entry l.below l.step-items l.step-index l.at (writing g.W.Sink.told l.initial.out) (writing g.W.Sink.told l.out)

abbrev pub invariant-print_run-trees : goal.invariant-print_run-trees
invariant-print_run-trees g l =
    Runs l.step l.prefix l.below l.from l.at (writing g.W.Sink.told l.initial.out) (writing g.W.Sink.told l.out)

abbrev pub decreases-print_run-trees : goal.decreases-print_run-trees
decreases-print_run-trees g l = length l.below - l.at
