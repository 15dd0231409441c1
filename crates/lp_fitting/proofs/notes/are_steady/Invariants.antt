use Rattle.std.proofs.Common.{◌≡◌, false, take, All}
use Rattle.lp_reading_laws.specs.Printing.LineTexts.{ends_open}
use Rattle.lp_reading_laws.specs.Printing.WellFormed.{IsTrailing}
use Rattle.lp_fitting.proofs.notes.are_steady.Given as goal

abbrev pub invariant-loop-line : goal.invariant-loop-line
invariant-loop-line l = All (λ line. IsTrailing line × (ends_open line ≡ false)) (take l.line-index l.lines)
