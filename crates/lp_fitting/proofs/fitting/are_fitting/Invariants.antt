use Rattle.std.proofs.Common.{take, All}
use Rattle.lp_fitting.specs.Fitting.{HolesFit}
use Rattle.lp_fitting.proofs.fitting.are_fitting.Given as goal

abbrev pub invariant-loop-entry : goal.invariant-loop-entry
invariant-loop-entry l = All (HolesFit l.prefix) (take l.entry-index l.entries)
