use Rattle.std.proofs.Common.{◌≡◌, ◌++◌, map, take}
use Rattle.lp_repr.specs.declared.parse_tree.TypeParameter.TheVariants as kind
use Rattle.lp_repr.proofs.free_variables.push_lifetimes.Given as goal

abbrev pub invariant-loop-name : goal.invariant-loop-name
invariant-loop-name l = l.free.items ≡ l.initial.free.items ++ map kind.Lifetime (take l.name-index l.names)
