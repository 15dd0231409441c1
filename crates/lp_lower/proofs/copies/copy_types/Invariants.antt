use Rattle.std.proofs.Common.{◌≡◌, map, take}
use Rattle.lp_repr.specs.TypeTrees.{type_tree}
use Rattle.lp_lower.proofs.copies.copy_types.Given as goal

abbrev pub invariant-loop-ty : goal.invariant-loop-ty
invariant-loop-ty l = map type_tree l.copies.items ≡ map type_tree (take l.ty-index l.types)
