-- The texts that the forms of a module share.
use Rattle.std.specs.Prelude.{ℕ, List, [], ◌∷◌, ◌++◌, map, codes, Option, Some, None}
use Rattle.std.specs.List.{flat_map, join_by}
use Rattle.std.specs.BTreeMap.{values}
use Rattle.lp_repr.specs.Shown.{parameter_text}
use Rattle.lp_repr.specs.ShownTypes.{type_text, clause_text}
use Rattle.lp_repr.specs.declared.parse_tree.TypeParameter.{TypeParameter}
use Rattle.lp_repr.specs.declared.parse_tree.TypeParameter.TheVariants as parameter
use Rattle.lp_repr.specs.declared.repr.Grammar.{Grammar}
use Rattle.lp_repr.specs.declared.repr.Parameter.{Parameter}
use Rattle.lp_repr.specs.declared.repr.TypeRepr.{TypeRepr}
use Rattle.lp_repr.specs.declared.repr.WhereClause.{WhereClause}
use Rattle.lp_parts.specs.Filter.{clauses_among, free_in_types, parameters_among}

-- texts with `, ` between each two
abbrev pub comma_list : List (List ℕ) → List ℕ
comma_list texts = join_by (λ text. text) (codes ", ") texts

-- what an optional type is shown as, or another text
abbrev pub type_or : List ℕ → Option TypeRepr → List ℕ
type_or other None = other
type_or other (Some ty) = type_text ty

-- the types of locations, tokens and errors
abbrev pub location_text : Grammar → List ℕ
location_text g = type_or (codes "()") g.types.loc

abbrev pub token_text : Grammar → List ℕ
token_text g = type_text g.types.token

abbrev pub error_text : Grammar → List ℕ
error_text g = type_or (codes "&'static str") g.types.error

-- the error of a parse, over these types
abbrev pub parse_error_of : List ℕ → List ℕ → List ℕ → List ℕ → List ℕ
parse_error_of prefix location token error =
    prefix ++ (codes "lalrpop_util::ParseError<" ++ (location ++ (codes ", " ++ (token ++ (codes ", " ++ (error ++ codes ">"))))))

abbrev pub parse_error_text : Grammar → List ℕ
parse_error_text g = parse_error_of g.prefix (location_text g) (token_text g) (error_text g)

-- a value between two locations
abbrev pub spanned_of : List ℕ → List ℕ → List ℕ
spanned_of location value =
    codes "(" ++ (location ++ (codes ", " ++ (value ++ (codes ", " ++ (location ++ codes ")")))))

abbrev pub triple_text : Grammar → List ℕ
triple_text g = spanned_of (location_text g) (token_text g)

-- the types of symbols, which tell what the symbol enum is over
abbrev pub valued_types : Grammar → List TypeRepr
valued_types g = values g.types.nonterminals ++ values g.types.terminals

unfoldable pub symbol_parameters : Grammar → List TypeParameter
symbol_parameters g = parameters_among g (free_in_types g (valued_types g))

unfoldable pub symbol_clauses : Grammar → List WhereClause
symbol_clauses g = clauses_among g (free_in_types g (valued_types g))

abbrev pub symbol_parameters_text : Grammar → List ℕ
symbol_parameters_text g = comma_list (map parameter_text (symbol_parameters g))

abbrev pub symbol_clauses_text : Grammar → List ℕ
symbol_clauses_text g = comma_list (map clause_text (symbol_clauses g))

-- the symbol enum over its parameters
abbrev pub symbol_of : List ℕ → List ℕ → List ℕ
symbol_of prefix parameters = prefix ++ (codes "Symbol<" ++ (parameters ++ codes ">"))

abbrev pub symbol_text : Grammar → List ℕ
symbol_text g = symbol_of g.prefix (symbol_parameters_text g)

-- a symbol between two locations, without blanks
abbrev pub spanned_symbol_of : List ℕ → List ℕ → List ℕ
spanned_symbol_of location symbol =
    codes "(" ++ (location ++ (codes "," ++ (symbol ++ (codes "," ++ (location ++ codes ")")))))

-- each text with `, ` behind it
abbrev pub each_with_comma : List (List ℕ) → List ℕ
each_with_comma texts = flat_map (λ text. text ++ codes ", ") texts

-- the name of a type parameter that isn't a lifetime
abbrev pub generic_name : TypeParameter → List (List ℕ)
generic_name (parameter.Lifetime name) = []
generic_name (parameter.Id name) = name ∷ []

abbrev pub generic_names_text : Grammar → List ℕ
generic_names_text g = comma_list (flat_map generic_name g.type_parameters)

-- each parameter's name, as an argument
abbrev pub arguments_of : List Parameter → List ℕ
arguments_of parameters = flat_map (λ p. p.name ++ codes ", ") parameters
