-- What stands before the rules of a grammar file.
use Rattle.std.specs.Prelude.{ℕ, List, [], Option, Some, None}
use Rattle.std.specs.Str.{trim}
use Rattle.lp_repr.specs.declared.consts.TheConstants.{RECURSIVE_ASCENT, TABLE_DRIVEN}
use Rattle.lp_repr.specs.declared.parse_tree.TypeParameter.{TypeParameter}
use Rattle.lp_repr.specs.declared.repr.LrCodeGeneration.{LrCodeGeneration}
use Rattle.lp_repr.specs.declared.repr.LrCodeGeneration.TheVariants.{TableDriven, RecursiveAscent}
use Rattle.lp_repr.specs.declared.repr.Parameter.{Parameter}
use Rattle.lp_repr.specs.TypeTrees.{TypeTree, ClauseTree, type_tree}
use Rattle.lp_tok.specs.declared.tok.Tok.TheVariants.{LeftParen, RightParen, LessThan, LeftBracket, RightBracket, Hash, Grammar, Where, Colon, Semi}
use Rattle.lp_types.specs.declared.texts.Kind.TheVariants as kind
use Rattle.lp_types.specs.Reading.{Reading, ◌>>=◌, give, choose, where_next, expected, expected_word, passed_word, taken, text, repeated, listed}
use Rattle.lp_types.specs.Names.{type_parameters}
use Rattle.lp_types.specs.Types.{full_type}
use Rattle.lp_types.specs.Clauses.{clauses}

-- a parameter, with the tree of its type
pub record ParameterTree : Type 0 where
  pub name : List ℕ
  pub ty : TypeTree

abbrev pub parameter_tree : Parameter → ParameterTree
parameter_tree p = record { name = p.name; ty = type_tree p.ty }

-- any number of attributes `#![..]`
unfoldable pub attributes : Reading (List (List ℕ))
attributes = repeated (taken kind.Attribute)

abbrev pub closed_use : Option (List ℕ) → Reading (Option (List ℕ))
closed_use (Some text) = expected Semi >>= λ _. give (Some (trim text))
closed_use None = give None

-- the next `use ..;`, without blanks around the text
unfoldable pub next_use : Reading (Option (List ℕ))
next_use = taken kind.Use >>= closed_use

-- any number of `use ..;`
unfoldable pub uses : Reading (List (List ℕ))
uses = repeated next_use

-- `table_driven`
unfoldable pub table_driven : Reading LrCodeGeneration
table_driven = expected_word TABLE_DRIVEN.now >>= λ _. give TableDriven

-- `recursive_ascent` or `table_driven`
unfoldable pub named_codegen : Reading LrCodeGeneration
named_codegen = passed_word RECURSIVE_ASCENT.now >>= λ b. choose b (give RecursiveAscent) table_driven

-- what follows `#`
unfoldable pub marked_codegen : Reading LrCodeGeneration
marked_codegen = expected LeftBracket >>= λ _. named_codegen >>= λ found. expected RightBracket >>= λ _. give found

-- `#[recursive_ascent]`, `#[table_driven]` or nothing
unfoldable pub codegen : Reading LrCodeGeneration
codegen = where_next Hash marked_codegen (give TableDriven)

-- `name: type`
unfoldable pub parameter : Reading ParameterTree
parameter = text kind.Id >>= λ name. expected Colon >>= λ _. full_type >>= λ t. give (record { name = name; ty = t })

-- parameters between commas, up to `)`
unfoldable pub parameters : Reading (List ParameterTree)
parameters = repeated (listed RightParen parameter)

-- type parameters in `<` and `>`, if they come
unfoldable pub maybe_type_parameters : Reading (List TypeParameter)
maybe_type_parameters = where_next LessThan type_parameters (give [])

-- parameters in `(` and `)`, if they come
unfoldable pub maybe_parameters : Reading (List ParameterTree)
maybe_parameters = where_next LeftParen parameters (give [])

-- `where` with its clauses, if it comes
unfoldable pub maybe_clauses : Reading (List ClauseTree)
maybe_clauses = where_next Where clauses (give [])

-- what `grammar` is followed by
pub record ListsTree : Type 0 where
  pub type_parameters : List TypeParameter
  pub parameters : List ParameterTree
  pub where_clauses : List ClauseTree

-- `grammar` with its type parameters, parameters and clauses, and `;`
unfoldable pub lists : Reading ListsTree
lists =
    expected Grammar >>= λ _. maybe_type_parameters >>= λ types. maybe_parameters >>= λ parameters. maybe_clauses >>= λ clauses. expected Semi >>= λ _.
    give (record { type_parameters = types; parameters = parameters; where_clauses = clauses })

-- what stands before the rules
pub record HeadTree : Type 0 where
  pub attributes : List (List ℕ)
  pub uses : List (List ℕ)
  pub codegen : LrCodeGeneration
  pub lists : ListsTree

unfoldable pub head : Reading HeadTree
head =
    attributes >>= λ attributes. uses >>= λ uses. codegen >>= λ codegen. lists >>= λ lists.
    give (record { attributes = attributes; uses = uses; codegen = codegen; lists = lists })
