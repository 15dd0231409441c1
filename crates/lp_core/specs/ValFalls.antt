-- A value's parts are smaller.
use Rattle.std.specs.Prelude.{◌+◌, ◌≤◌, max, List, [], ◌∷◌}
use Rattle.std.proofs.Common.{arith}
use denote.Param.Weighed.{most}
use Rattle.lp_core.specs.declared.value.Kind.{Kind}
use Rattle.lp_core.specs.declared.value.Kind.TheVariants as k
use Rattle.lp_core.specs.declared.value.Value.TheDeep.{deep-Kind}
use Rattle.lp_core.specs.Val.{Val, vals_of, size_of, sizes_of}
use Rattle.lp_core.specs.ValView.{val_of}

most_size : (vs : List Val) → most (λ v. size_of v + 1) vs ≤ sizes_of (vals_of vs) + 1
most_size [] = omega arith
most_size (v ∷ vs) = omega (arith, most_size vs)

pub parts_smaller : (m : Kind) → max (deep-Kind m) 0 ≤ size_of (val_of m)
parts_smaller (k.Plain d) = omega arith
parts_smaller (k.Made tag vs) = omega (arith, most_size vs.items)
