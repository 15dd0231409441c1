-- So many lines are taken, whatever the part becomes; the others tell here what all tell, of as many as there may be; and the lines up to the next one begin the step.
use Rattle.std.proofs.Common.{◌≡◌, ◌≤◌, ℕ, map}
use Rattle.lp_form.specs.Templates.{piece, holes_of}
use Rattle.lp_program.specs.Trees.{Content}
use Rattle.lp_spelling.specs.Lines.{line_of}
use Rattle.lp_spelling.specs.Cursors.{left, IsTaken}
use Rattle.lp_program.specs.Reads.{TakesLines}
use Rattle.lp_program.specs.Growing.{Grows, MayBecome}
use Rattle.lp_program.specs.Telling.{told}
use Rattle.lp_program.proofs.LinesBegun.{LinesBegun}
use Rattle.lp_program.proofs.Telling.{LinesOf}
use Rattle.lp_program.proofs.read.growing.lines_step.Given as goal

abbrev pub invariant-loop-i : goal.invariant-loop-i
invariant-loop-i l = record {
  kinds : l.scope.kinds.now ≡ holes_of l.growing.part;
  same : IsTaken l.cursor l.place;
  grows : Grows l.scope.prefix.now l.initial.growing l.growing;
  takes : (c : Content) → MayBecome l.growing c → TakesLines l._i (line_of l.scope.prefix.now c.holes (map piece l.pieces)) (left l.cursor) (left l.place);
  tells : (m : ℕ) → l._i ≤ m → LinesOf l.scope.prefix.now l.scope.kinds.now (map piece l.pieces) m l._i (told l.initial.growing) (told l.growing) l.cursor l.place;
  begun : LinesBegun l.scope.prefix.now l.initial.growing l.fn.count (map piece l.pieces) l.cursor l.place;
}
