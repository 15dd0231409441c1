use Rattle.std.proofs.Common.{suc, ◌<◌, arith}
use Rattle.lp_driver.specs.Turns.{run}
use Rattle.lp_turns.specs.DriverCall.{program_answers, left_of}
use Rattle.lp_run.specs.RunTold.{finished}
use Rattle.lp_run.proofs.Telling.{driver_tells}
use Rattle.lp_run.proofs.run.run_driver.Goals as goal

pub returns : goal.returns
returns c =
    let d = c.args.first in
    let below : left_of d < suc d.left = omega arith in
    driver_tells c.args.budget c.drive-outcome.result c.drive-outcome.new.definition (run program_answers (suc d.left) c.args.items.now d) (finished c.in_ok-finished.finished)
    (c.drive-outcome.ensures (suc d.left) below) c.in_ok-finished.ensures
