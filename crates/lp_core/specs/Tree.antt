-- Expressions with no pointers.
use Rattle.std.specs.Prelude.{ℕ, ◌+◌, List, [], ◌∷◌}
use Rattle.lp_core.specs.declared.expr.Leaf.{Leaf}
use Rattle.lp_core.specs.declared.expr.Op.{Op}
use Rattle.lp_core.specs.declared.expr.Target.{Target}
use Rattle.lp_core.specs.declared.expr.Case.{Case}

mutual
  pub data Tree : Type 0 where
    Plain : Leaf → Tree
    Apply : Op → Tree → Tree
    If : Tree → Tree → Tree → Tree
    Match : Tree → ℕ → List Case → Trees → Tree
    Loop : Tree → Tree
    Call : Target → Trees → Tree
    Block : Trees → Tree

  pub data Trees : Type 0 where
    end : Trees
    more : Tree → Trees → Trees

abbrev pub trees_of : List Tree → Trees
trees_of [] = end
trees_of (t ∷ ts) = more t (trees_of ts)

abbrev mutual
  pub size_of : Tree → ℕ
  size_of (Plain l) = 1
  size_of (Apply op t) = size_of t + 1
  size_of (If t a b) = size_of t + size_of a + size_of b + 1
  size_of (Match t x cases bodies) = size_of t + sizes_of bodies + 1
  size_of (Loop t) = size_of t + 1
  size_of (Call f ts) = sizes_of ts + 1
  size_of (Block ts) = sizes_of ts + 1

  pub sizes_of : Trees → ℕ
  sizes_of end = 0
  sizes_of (more t ts) = size_of t + sizes_of ts + 1
