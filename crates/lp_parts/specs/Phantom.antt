-- Phantom data that uses each type parameter.
use Rattle.std.specs.Prelude.{ℕ, List, ◌++◌, map, codes}
use Rattle.lp_repr.specs.declared.parse_tree.TypeParameter.{TypeParameter}
use Rattle.lp_repr.specs.declared.parse_tree.TypeParameter.TheVariants as parameter
use Rattle.lp_parts.specs.Texts.{comma_list}

-- a use of a parameter in a type, and in an expression
abbrev pub used_in_type : TypeParameter → List ℕ
used_in_type (parameter.Lifetime name) = codes "&" ++ (name ++ codes " ()")
used_in_type (parameter.Id name) = name

abbrev pub used_in_expression : TypeParameter → List ℕ
used_in_expression (parameter.Lifetime name) = codes "&()"
used_in_expression (parameter.Id name) = name

abbrev pub phantom_type_of : List TypeParameter → List ℕ
phantom_type_of ps = codes "core::marker::PhantomData<(" ++ (comma_list (map used_in_type ps) ++ codes ")>")

abbrev pub phantom_expression_of : List TypeParameter → List ℕ
phantom_expression_of ps = codes "core::marker::PhantomData::<(" ++ (comma_list (map used_in_expression ps) ++ codes ")>")
