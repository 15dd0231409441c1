use Rattle.std.proofs.Common.{ap, ◌∙◌}
use Rattle.lp_run.specs.Functions.{placed}
use Rattle.lp_run.proofs.functions.one_made.Goals as goal

pub returns : goal.returns
returns c = c.define.ensures ∙ ap (placed c.args.one.now.0) c.in_ok-function.ensures
