-- The clauses so far, and those to come.
use Rattle.std.proofs.Common.{◌≡◌, ◌++◌, drop, map}
use Rattle.std.specs.Map.Iter.{deref}
use Rattle.lp_repr.specs.TypeTrees.{clause_tree}
use Rattle.lp_parts.specs.MachineParameters.{outlived_from}
use Rattle.lp_parts.proofs.machine_parameters.push_outlived.Given as goal

abbrev pub invariant-loop-referent : goal.invariant-loop-referent
invariant-loop-referent l =
    map clause_tree l.clauses.items ++ outlived_from l.declared l.prefix l.number (map deref (drop l.referent-index l.referents))
    ≡ map clause_tree l.initial.clauses.items ++ outlived_from l.declared l.prefix l.first (map deref l.referents)
