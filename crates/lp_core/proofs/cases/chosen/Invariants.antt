use Rattle.std.proofs.Common.{◌≡◌, drop}
use Rattle.lp_core.specs.Store.{program_of}
use Rattle.lp_core.specs.CaseMeaning.{chosen}
use Rattle.lp_core.proofs.cases.chosen.Given as goal

abbrev pub invariant-loop-case : goal.invariant-loop-case
invariant-loop-case l =
    chosen (program_of l.setting) (drop l.case-index l.cases) l.bodies l.v ≡ chosen (program_of l.setting) l.cases l.bodies l.v
