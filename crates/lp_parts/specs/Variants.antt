-- The variants of the symbol enum: one per distinct type of a symbol.
use Rattle.std.specs.Prelude.{ℕ, List, [], ◌∷◌, ◌++◌, fold, length, map, nat_lt, position, unwrap_or, if◌then◌else◌}
use Rattle.std.specs.BTreeMap.{get}
use Rattle.lp_repr.specs.NameOrder.{nonterminal_cmp, terminal_cmp}
use Rattle.lp_repr.specs.Numbering.{nonterminals_of, terminals_of}
use Rattle.lp_repr.specs.TypeOrder.{type_eq}
use Rattle.lp_repr.specs.declared.repr.Grammar.{Grammar}
use Rattle.lp_repr.specs.declared.repr.NonterminalString.{NonterminalString}
use Rattle.lp_repr.specs.declared.repr.TerminalString.{TerminalString}
use Rattle.lp_repr.specs.declared.repr.TypeRepr.{TypeRepr}

-- the type of a symbol's values, that of tokens where it has none of its own
abbrev pub terminal_type : Grammar → TerminalString → TypeRepr
terminal_type g terminal = unwrap_or (get terminal_cmp g.types.terminals terminal) g.types.token

abbrev pub nonterminal_type : Grammar → NonterminalString → TypeRepr
nonterminal_type g nonterminal = unwrap_or (get nonterminal_cmp g.types.nonterminals nonterminal) g.types.token

abbrev pub terminal_types : Grammar → List TypeRepr
terminal_types g = map (terminal_type g) (terminals_of g)

abbrev pub nonterminal_types : Grammar → List TypeRepr
nonterminal_types g = map (nonterminal_type g) (nonterminals_of g)

-- the place of a type among types, their count where it isn't there
abbrev pub variant_number : List TypeRepr → TypeRepr → ℕ
variant_number types ty = unwrap_or (position (type_eq ty) types) (length types)

-- types with one more, if it isn't there
abbrev pub with_type : List TypeRepr → TypeRepr → List TypeRepr
with_type types ty = if nat_lt (variant_number types ty) (length types) then types else types ++ ty ∷ []

-- types with those of others that aren't there, in their order
abbrev pub with_types : List TypeRepr → List TypeRepr → List TypeRepr
with_types types [] = types
with_types types (ty ∷ others) = with_types (with_type types ty) others

-- the variant of each type, where these types have theirs already
abbrev pub variant_numbers : List TypeRepr → List TypeRepr → List ℕ
variant_numbers types [] = []
variant_numbers types (ty ∷ others) = variant_number types ty ∷ variant_numbers (with_type types ty) others

-- the types of the variants: those of terminals, then those of nonterminals
unfoldable pub variant_types : Grammar → List TypeRepr
variant_types g = with_types (with_types [] (terminal_types g)) (nonterminal_types g)

-- the variant of each terminal, and of each nonterminal, by number
unfoldable pub terminal_variants : Grammar → List ℕ
terminal_variants g = variant_numbers [] (terminal_types g)

unfoldable pub nonterminal_variants : Grammar → List ℕ
nonterminal_variants g = variant_numbers (with_types [] (terminal_types g)) (nonterminal_types g)
