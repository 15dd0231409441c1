-- An expression's parts are smaller.
use Rattle.std.specs.Prelude.{◌+◌, ◌≤◌, max, List, [], ◌∷◌}
use Rattle.std.proofs.Common.{arith}
use denote.Param.Weighed.{most}
use Rattle.lp_core.specs.declared.expr.Node.{Node}
use Rattle.lp_core.specs.declared.expr.Node.TheVariants as n
use Rattle.lp_core.specs.declared.expr.Expr.TheDeep.{deep-Node}
use Rattle.lp_core.specs.Tree.{Tree, trees_of, size_of, sizes_of}
use Rattle.lp_core.specs.NodeView.{tree_of}

most_size : (ts : List Tree) → most (λ t. size_of t + 1) ts ≤ sizes_of (trees_of ts) + 1
most_size [] = omega arith
most_size (t ∷ ts) = omega (arith, most_size ts)

pub parts_smaller : (m : Node) → max (deep-Node m) 0 ≤ size_of (tree_of m)
parts_smaller (n.Plain l) = omega arith
parts_smaller (n.Apply op e) = omega arith
parts_smaller (n.If t a b) = omega arith
parts_smaller (n.Match t x cases bodies) = omega (arith, most_size bodies.items)
parts_smaller (n.Loop e) = omega arith
parts_smaller (n.Call f args) = omega (arith, most_size args.items)
parts_smaller (n.Block es) = omega (arith, most_size es.items)
