-- The first mark, and what stands before and after it.
use Rattle.std.proofs.Common.{inl, refl}
use Rattle.lp_lines.proofs.file.cut_file.Goals as goal

pub returns-in-Some : goal.returns-in-Some
returns-in-Some c = inl (c.in-Some.place, c.in-Some.ensures, refl, c.from.ensures)
