-- How much is to be done before the next step.
use Rattle.std.specs.Prelude.{ℕ, ◌+◌, List, [], ◌∷◌}
use Rattle.lp_core.specs.declared.machine.Frame.{Frame}
use Rattle.lp_core.specs.declared.machine.Frame.TheVariants as f
use Rattle.lp_core.specs.declared.machine.Now.{Now}
use Rattle.lp_core.specs.declared.machine.Now.TheVariants as n
use Rattle.lp_core.specs.Tree.{Tree, Plain, Apply, If, Match, Loop, Call, Block, Trees, end, more, trees_of}

abbrev mutual
  pub weight : Tree → ℕ
  weight (Plain l) = 1
  weight (Apply op e) = weight e + 2
  weight (If t a b) = weight t + (weight a + weight b) + 2
  weight (Match t x cases bodies) = weight t + weight_all bodies + 3
  weight (Loop e) = 1
  weight (Call f args) = weight_all args + 1
  weight (Block es) = weight_all es + 1

  pub weight_all : Trees → ℕ
  weight_all end = 1
  weight_all (more e es) = weight e + weight_all es + 2

abbrev pub weight_frame : Frame → ℕ
weight_frame (f.Apply op) = 1
weight_frame (f.Sequence es) = weight_all (trees_of es.now) + 1
weight_frame (f.Choose a b) = weight a.now + weight b.now + 1
weight_frame (f.Select x cases bodies) = weight_all (trees_of bodies.now) + 1
weight_frame (f.Argument g vs args) = weight_all (trees_of args.now) + 1
weight_frame (f.Turn e) = 1
weight_frame (f.Leave env cells) = 1

abbrev pub weights : List Frame → ℕ
weights [] = 0
weights (fr ∷ frs) = weight_frame fr + weights frs

abbrev pub weight_now : Now → ℕ
weight_now (n.Eval e) = weight e.now
weight_now (n.Arguments g vs args) = weight_all (trees_of args.now)
weight_now (n.Sequence es v) = weight_all (trees_of es.now)
weight_now (n.Ended d) = 0
weight_now (n.Make step) = 0
