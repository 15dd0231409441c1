use Rattle.std.proofs.Common.{take}
use Rattle.lp_states.specs.Naming.{AreSpelled}
use Rattle.lp_states.specs.Building.{paths_of}
use Rattle.lp_states.proofs.builder.Builder.paths.Given as goal

abbrev pub invariant-loop-state : goal.invariant-loop-state
invariant-loop-state l = AreSpelled l.names l.paths.items (take l.state (paths_of l.self.origins.items))
