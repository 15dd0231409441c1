-- The clauses so far.
use Rattle.std.proofs.Common.{◌≡◌, ◌++◌, map, take}
use Rattle.lp_repr.specs.TypeTrees.{clause_tree}
use Rattle.lp_parts.specs.MachineParameters.{outlives}
use Rattle.lp_parts.proofs.machine_parameters.push_clauses.Given as goal

abbrev pub invariant-loop-variable : goal.invariant-loop-variable
invariant-loop-variable l =
    map clause_tree l.clauses.items
    ≡ map clause_tree l.initial.clauses.items ++ map (outlives l.lifetime) (take l.variable-index l.variables)
