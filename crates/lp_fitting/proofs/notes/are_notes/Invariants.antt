use Rattle.std.proofs.Common.{take, All}
use Rattle.lp_reading_laws.specs.Printing.WellFormed.{IsNote, IsSteady}
use Rattle.lp_fitting.proofs.notes.are_notes.Given as goal
use Rattle.lp_tree.specs.ProgramTree.{noted}

abbrev pub invariant-loop-part : goal.invariant-loop-part
invariant-loop-part l = All (λ part. IsNote (noted part) × IsSteady (noted part)) (take l.part-index l.notes)
