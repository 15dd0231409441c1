-- The types so far with those that are left, and the numbers so far with those to come.
use Rattle.std.proofs.Common.{◌≡◌, ◌++◌, drop, map}
use Rattle.std.specs.Map.Iter.{deref}
use Rattle.lp_parts.specs.Variants.{variant_numbers, with_types}
use Rattle.lp_parts.proofs.variants.variant_numbers.Given as goal

abbrev pub invariant-loop-ty : goal.invariant-loop-ty
invariant-loop-ty l = record {
  types : with_types (map deref l.types.items) (map deref (drop l.ty-index l.others))
      ≡ with_types (map deref l.initial.types.items) (map deref l.others);
  numbers : l.numbers.items ++ variant_numbers (map deref l.types.items) (map deref (drop l.ty-index l.others))
      ≡ variant_numbers (map deref l.initial.types.items) (map deref l.others);
}
