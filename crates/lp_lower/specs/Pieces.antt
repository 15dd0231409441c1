-- What a combination is made of.
use Rattle.std.specs.Prelude.{Bool, false, ◌||◌, List, [], ◌∷◌, ◌++◌, map}
use Rattle.std.specs.List.{flat_map, list_any}
use Rattle.lp_repr.specs.declared.repr.InlinedSymbol.{InlinedSymbol}
use Rattle.lp_repr.specs.declared.repr.InlinedSymbol.TheVariants as inlined
use Rattle.lp_repr.specs.declared.repr.Symbol.{Symbol}
use Rattle.lp_lower.specs.declared.combine.Combination.{Combination}
use Rattle.lp_lower.specs.declared.combine.Expanded.{Expanded}
use Rattle.lp_lower.specs.declared.combine.Part.{Part}
use Rattle.lp_lower.specs.declared.combine.Part.TheVariants as part

-- what stands in the place of a symbol: the symbol itself, or an expanded alternative
pub data Piece : Type 0 where
  itself : Symbol → Piece
  chosen : Expanded → Piece

-- its symbols
abbrev pub piece_symbols : Piece → List Symbol
piece_symbols (itself s) = s ∷ []
piece_symbols (chosen e) = e.symbols

-- how an inline action takes it
abbrev pub piece_inlined : Piece → InlinedSymbol
piece_inlined (itself s) = inlined.Original s
piece_inlined (chosen e) = inlined.Inlined e.action e.symbols

-- its action can fail
abbrev pub piece_fails : Piece → Bool
piece_fails (itself s) = false
piece_fails (chosen e) = e.fallible

-- the pieces of a part
abbrev pub pieces_of : Part → List Piece
pieces_of (part.Itself s) = itself s ∷ []
pieces_of (part.Options es) = map chosen es.now

-- these pieces, where the action on them can fail or cannot
unfoldable pub combination_of : Bool → List Piece → Combination
combination_of fallible pieces = record { inlined = map piece_inlined pieces; fallible = fallible || list_any piece_fails pieces; symbols = flat_map piece_symbols pieces }

-- one more piece
abbrev pub with_piece : Combination → Piece → Combination
with_piece c piece = record { inlined = c.inlined ++ piece_inlined piece ∷ []; fallible = c.fallible || piece_fails piece; symbols = c.symbols ++ piece_symbols piece }
