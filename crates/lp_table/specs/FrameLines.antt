-- The frame of a module: uses, and the parser with its `parse` method.
use Rattle.std.specs.Prelude.{ℕ, Bool, false, List, [], ◌∷◌, ◌++◌, is_some, nat_eq, codes, if◌then◌else◌}
use Rattle.std.specs.List.{flat_map, starts_with}
use Rattle.lp_form.specs.declared.part.Part.TheVariants as part
use Rattle.lp_repr.specs.declared.repr.Grammar.{Grammar}
use Rattle.lp_tree.specs.ProgramTree.{Item, leaf}
use Rattle.lp_build.specs.Built.{over}
use Rattle.lp_build.specs.Functions.{parser_part}
use Rattle.lp_build.specs.declared.functions.FunctionName.TheVariants as name
use Rattle.lp_parts.specs.Texts.{each_with_comma, parse_error_text}
use Rattle.lp_table.specs.Headers.{clauses_of, declared_texts, generics_of, header_lines}
use Rattle.lp_table.specs.Starts.{Start}

-- the tokens are made by the module of tokens
abbrev pub is_interned : Grammar → Bool
is_interned g = is_some g.intern_token

-- a use as a module inside has it
abbrev pub inner_use : List ℕ → List ℕ
inner_use text = if starts_with nat_eq text (codes "super::") then codes "super::" ++ text else text

abbrev pub use_lines : List ℕ → List Item
use_lines text = leaf part.UseLine (inner_use text ∷ [])

-- the uses of a module inside
unfoldable pub inner_uses : Grammar → List Item
inner_uses g = flat_map use_lines g.uses ++ leaf part.StandardUses []

abbrev pub token_use_lines : Grammar → List Item
token_use_lines g = leaf (if is_interned g then part.TokenUseInterned else part.TokenUsePlain) []

-- the further type parameters of `parse`: tokens, and what gives them
abbrev pub token_bound : Grammar → List ℕ
token_bound g =
    g.prefix ++ (codes "TOKEN: " ++ (g.prefix ++ (codes "ToTriple<" ++ (each_with_comma (generics_of g) ++ codes ">"))))

unfoldable pub token_iterator : List ℕ → List ℕ
token_iterator prefix = codes "IntoIterator<Item=" ++ (prefix ++ codes "TOKEN>")

abbrev pub tokens_bound : Grammar → List ℕ
tokens_bound g = g.prefix ++ (codes "TOKENS: " ++ token_iterator g.prefix)

abbrev pub parse_generics : Grammar → List (List ℕ)
parse_generics g = if is_interned g then generics_of g else generics_of g ++ token_bound g ∷ tokens_bound g ∷ []

-- the parameters of `parse`
abbrev pub tokens_parameter : Grammar → List ℕ
tokens_parameter g = g.prefix ++ (codes "tokens0: " ++ (g.prefix ++ codes "TOKENS"))

abbrev pub own_parameters : Grammar → List (List ℕ)
own_parameters g = codes "&self" ∷ declared_texts g

abbrev pub parse_parameters : Grammar → List (List ℕ)
parse_parameters g = if is_interned g then own_parameters g else own_parameters g ++ tokens_parameter g ∷ []

abbrev pub parse_answer : Grammar → Start → List ℕ
parse_answer g s = codes "Result<" ++ (s.ty ++ (codes ", " ++ (parse_error_text g ++ codes ">")))

unfoldable pub parse_header : Grammar → Start → List Item
parse_header g s = header_lines (name.Parse s.visibility) (parse_generics g) (parse_parameters g) (parse_answer g s) (clauses_of g)

-- where the tokens come from
unfoldable pub source_lines : Grammar → List Item
source_lines g = leaf (if is_interned g then part.TokenSourceInterned else part.TokenSourcePlain) []

-- a parser by tables, and a module of table-driven code, of what is below them
unfoldable pub parser_parts : Bool → List ℕ → List ℕ → List Item → List Item
parser_parts interned visibility public_name below =
    over (parser_part false interned) (visibility ∷ public_name ∷ []) below

unfoldable pub module_parts : List ℕ → List Item → List Item → List Item
module_parts nonterminal front rows =
    over part.ParseModule (nonterminal ∷ []) (front ++ over part.TableItems [] rows)

-- the parser by tables, with this body of its `parse` method
unfoldable pub table_parser : Grammar → Start → List Item → List Item
table_parser g s body =
    parser_parts (is_interned g) s.visibility s.public_name ((parse_header g s ++ source_lines g) ++ body)
