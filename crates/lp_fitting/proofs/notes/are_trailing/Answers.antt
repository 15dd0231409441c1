use Rattle.std.proofs.Common.{arith}
use Rattle.lp_reading_laws.specs.Printing.WellFormed.{IsTrailing}
use Rattle.lp_fitting.proofs.Each.{each_goes_on, each_ends}
use Rattle.lp_fitting.proofs.notes.are_trailing.Goals as goal

pub loop-comment-preserved : goal.loop-comment-preserved
loop-comment-preserved c =
    each_goes_on IsTrailing c.args.comments.now c.loop-comment.comment-index c.comment-item.result c.as_str.result.now c.is_trailing.result (omega arith) c.comment-item.is c.as_str.ensures c.is_trailing.ensures
    c.if-not-is_trailing.false c.loop-comment.invariant

pub returns : goal.returns
returns c = each_ends IsTrailing c.args.comments.now c.loop-comment.comment-index (omega arith) c.loop-comment.invariant
