use Rattle.std.proofs.Common.{arith}
use Rattle.lp_fitting.proofs.Each.{each_goes_on, each_ends}
use Rattle.lp_fitting.proofs.Parts.{IsSteadyLine}
use Rattle.lp_fitting.proofs.notes.are_steady.Goals as goal

pub loop-line-preserved : goal.loop-line-preserved
loop-line-preserved c =
    each_goes_on IsSteadyLine c.args.lines.now c.loop-line.line-index c.line-item.result c.as_str.result.now c.is_steady.result (omega arith) c.line-item.is c.as_str.ensures c.is_steady.ensures
    c.if-not-is_steady.false c.loop-line.invariant

pub returns : goal.returns
returns c = each_ends IsSteadyLine c.args.lines.now c.loop-line.line-index (omega arith) c.loop-line.invariant
