use Rattle.std.proofs.Common.{sym, subst}
use Rattle.lp_valid.specs.InlineRules.{part_runs}
use Rattle.lp_valid.specs.Walk.{Marks}
use Rattle.lp_valid.proofs.Walks.{marks_none}
use Rattle.lp_valid.proofs.circles.Reached.reach_part.Goals as goal

pub returns-in-Original-clause-marks : goal.returns-in-Original-clause-marks
returns-in-Original-clause-marks c = subst (λ p. Marks c.args.self.now c.args.self.now (part_runs p)) (sym c.in-Original.is) (marks_none c.args.self.now)
