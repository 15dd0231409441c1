use Rattle.std.proofs.Common.{◌≡◌, map, take}
use Rattle.lp_repr.specs.TypeTrees.{bound_parameter_tree}
use Rattle.lp_repr.proofs.copies.copy_bound_parameters.Given as goal

-- the trees so far
abbrev pub invariant-loop-parameter : goal.invariant-loop-parameter
invariant-loop-parameter l = map bound_parameter_tree l.copies.items ≡ map bound_parameter_tree (take l.parameter-index l.parameter-items)
