-- The normal form of user code.
use Rattle.std.specs.Prelude.{ℕ, List, [], ◌∷◌, codes}
use Rattle.std.specs.Str.{trim_start}

-- the text, or `()` where it is empty
abbrev pub or_unit : List ℕ → List ℕ
or_unit [] = codes "()"
or_unit (c ∷ cs) = c ∷ cs

-- the code without leading blanks, and `()` where nothing is left
abbrev pub norm_of : List ℕ → List ℕ
norm_of code = or_unit (trim_start code)
