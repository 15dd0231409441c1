-- The values of a running program, with no pointers.
use Rattle.std.specs.Prelude.{ℕ, ◌+◌, List, [], ◌∷◌}
use Rattle.lp_core.specs.declared.value.Tag.{Tag}
use Rattle.lp_core.specs.Datum.{Datum}

mutual
  pub data Val : Type 0 where
    Plain : Datum → Val
    Made : Tag → Vals → Val

  pub data Vals : Type 0 where
    end : Vals
    more : Val → Vals → Vals

abbrev pub vals_of : List Val → Vals
vals_of [] = end
vals_of (v ∷ vs) = more v (vals_of vs)

abbrev pub list_of : Vals → List Val
list_of end = []
list_of (more v vs) = v ∷ list_of vs

abbrev mutual
  pub size_of : Val → ℕ
  size_of (Plain d) = 1
  size_of (Made tag vs) = sizes_of vs + 1

  pub sizes_of : Vals → ℕ
  sizes_of end = 0
  sizes_of (more v vs) = size_of v + sizes_of vs + 1
