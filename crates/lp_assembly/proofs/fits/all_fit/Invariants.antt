use Rattle.std.proofs.Common.{take}
use Rattle.lp_assembly.specs.Built.{AllFit}
use Rattle.lp_assembly.proofs.fits.all_fit.Given as goal

abbrev pub invariant-loop-list : goal.invariant-loop-list
invariant-loop-list l = AllFit (take l.list-index l.lists)
