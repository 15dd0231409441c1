-- The trees so far with those of the types that are left, and the next number after all of them.
use Rattle.std.proofs.Common.{◌≡◌, ◌+◌, ◌++◌, drop, map}
use Rattle.lp_repr.specs.TypeTrees.{type_tree}
use Rattle.lp_parts.specs.Named.{named_of, unnamed_of}
use Rattle.lp_parts.proofs.named.+named.Given as goal

abbrev pub invariant-named_types-loop-ty : goal.invariant-named_types-loop-ty
invariant-named_types-loop-ty l = record {
  trees : map type_tree l.named.items ++ named_of l.prefix l.next (map type_tree (drop l.ty-index l.ty-items))
      ≡ named_of l.prefix l.initial.next (map type_tree l.ty-items);
  next : l.next + unnamed_of (map type_tree (drop l.ty-index l.ty-items))
      ≡ l.initial.next + unnamed_of (map type_tree l.ty-items);
}
