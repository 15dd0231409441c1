use Rattle.std.proofs.Common.{◌≡◌, map, take}
use Rattle.lp_repr.specs.TypeTrees.{type_tree}
use Rattle.lp_repr.proofs.copies.+copies.Given as goal

-- the trees so far
abbrev pub invariant-copy_types-loop-ty : goal.invariant-copy_types-loop-ty
invariant-copy_types-loop-ty l = map type_tree l.copies.items ≡ map type_tree (take l.ty-index l.ty-items)
