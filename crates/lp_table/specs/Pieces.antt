-- Texts of a tree.
use Rattle.std.specs.Prelude.{ℕ, List, [], ◌∷◌, ◌++◌, map, codes, decimal, Option, Some, None}
use Rattle.lp_repr.specs.ShownTypes.{type_text}
use Rattle.lp_repr.specs.declared.repr.Grammar.{Grammar}
use Rattle.lp_parts.specs.Texts.{location_text, spanned_symbol_of, symbol_text}
use Rattle.lp_parts.specs.Variants.{variant_types}

-- the name of a variant
abbrev pub variant_text : ℕ → List ℕ
variant_text n = codes "Variant" ++ decimal n

-- what the types of the variants are shown as
abbrev pub variant_types_shown : Grammar → List (List ℕ)
variant_types_shown g = map type_text (variant_types g)

-- lists of a type, and a reference to it that may be there
unfoldable pub vec_of : List ℕ → List ℕ
vec_of ty = codes "alloc::vec::Vec<" ++ (ty ++ codes ">")

unfoldable pub borrowed_option : List ℕ → List ℕ
borrowed_option ty = codes "Option<&" ++ (ty ++ codes ">")

-- a symbol between two locations
unfoldable pub spanned_symbol_text : Grammar → List ℕ
spanned_symbol_text g = spanned_symbol_of (location_text g) (symbol_text g)

-- a text that isn't empty
abbrev pub unless_empty : List ℕ → Option (List ℕ)
unless_empty [] = None
unless_empty (c ∷ cs) = Some (c ∷ cs)
