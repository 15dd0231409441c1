-- What an expression's form is.
use Rattle.lp_core.specs.declared.expr.Node.{Node}
use Rattle.lp_core.specs.declared.expr.Node.TheVariants as n
use Rattle.lp_core.specs.Tree.{Tree, Plain, Apply, If, Match, Loop, Call, Block, trees_of}

abbrev pub tree_of : Node → Tree
tree_of (n.Plain l) = Plain l
tree_of (n.Apply op e) = Apply op e.value
tree_of (n.If t a b) = If t.value a.value b.value
tree_of (n.Match t x cases bodies) = Match t.value x cases.items (trees_of bodies.items)
tree_of (n.Loop e) = Loop e.value
tree_of (n.Call f args) = Call f (trees_of args.items)
tree_of (n.Block es) = Block (trees_of es.items)
