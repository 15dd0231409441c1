use Rattle.std.proofs.Common.{take, All}
use Rattle.lp_reading_laws.specs.Printing.WellFormed.{IsTrailing}
use Rattle.lp_fitting.proofs.notes.are_trailing.Given as goal

abbrev pub invariant-loop-comment : goal.invariant-loop-comment
invariant-loop-comment l = All IsTrailing (take l.comment-index l.comments)
