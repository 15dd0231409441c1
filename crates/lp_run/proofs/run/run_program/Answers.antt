use Rattle.lp_run.specs.Named.{named}
use Rattle.lp_run.proofs.run.run_program.Goals as goal

pub returns : goal.returns
returns c = c.run_found.ensures c.args.program.now (named c.args.program.now c.args.start.now) c.in_ok-found.ensures
