use Rattle.std.proofs.Common.{All, take}
use Rattle.lp_parts.specs.Entries.{EntriesFit}
use Rattle.lp_assembly.proofs.fits.first_unfit.Given as goal

abbrev pub invariant-loop-number : goal.invariant-loop-number
invariant-loop-number l = All EntriesFit (take l.number l.states)
