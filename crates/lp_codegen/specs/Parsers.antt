-- The lines of a parser up to the body of its `parse` method.
use Rattle.std.specs.Prelude.{ℕ, Bool, Some, List, [], ◌∷◌, ◌++◌, map, codes, if◌then◌else◌}
use Rattle.lp_repr.specs.Shown.{parameter_text}
use Rattle.lp_repr.specs.ShownTypes.{clause_text, type_text}
use Rattle.lp_repr.specs.declared.parse_tree.TypeParameter.{TypeParameter}
use Rattle.lp_repr.specs.declared.repr.Grammar.{Grammar}
use Rattle.lp_repr.specs.declared.repr.Parameter.{Parameter}
use Rattle.lp_parts.specs.Texts.{each_with_comma}
use Rattle.lp_write.specs.Headers.{Header}
use Rattle.lp_codegen.specs.Modules.{line_if}

-- the struct of the parser of a public name
abbrev pub struct_line : List ℕ → List ℕ → List ℕ
struct_line visibility name = visibility ++ (codes "struct " ++ (name ++ codes "Parser {"))

abbrev pub builder_field : List ℕ → List ℕ
builder_field prefix = codes "builder: " ++ (prefix ++ codes "lalrpop_util::lexer::MatcherBuilder,")

abbrev pub struct_lines : Bool → List ℕ → List ℕ → List ℕ → List (List ℕ)
struct_lines interned prefix visibility name =
    (struct_line visibility name ∷ [] ++ line_if interned (builder_field prefix))
    ++ codes "_priv: ()," ∷ codes "}" ∷ [] ∷ []

-- its implementations, up to the value that `new` makes
abbrev pub default_line : List ℕ → List ℕ
default_line name = codes "impl Default for " ++ (name ++ codes "Parser { fn default() -> Self { Self::new() } }")

abbrev pub impl_line : List ℕ → List ℕ
impl_line name = codes "impl " ++ (name ++ codes "Parser {")

abbrev pub new_line : List ℕ → List ℕ → List ℕ
new_line visibility name = visibility ++ (codes "fn new() -> " ++ (name ++ codes "Parser {"))

abbrev pub builder_line : List ℕ → List ℕ → List ℕ
builder_line action_module prefix =
    codes "let " ++ (prefix ++ (codes "builder = " ++ (action_module ++ (codes "::" ++ (prefix ++ codes "intern_token::new_builder();")))))

abbrev pub impl_lines : Bool → List ℕ → List ℕ → List ℕ → List ℕ → List (List ℕ)
impl_lines interned action_module prefix visibility name =
    default_line name ∷ impl_line name ∷ new_line visibility name ∷ []
    ++ line_if interned (builder_line action_module prefix)

-- the value that `new` makes, up to the header of `parse`
abbrev pub value_line : List ℕ → List ℕ
value_line name = name ++ codes "Parser {"

abbrev pub builder_value : List ℕ → List ℕ
builder_value prefix = codes "builder: " ++ (prefix ++ codes "builder,")

abbrev pub value_lines : Bool → List ℕ → List ℕ → List (List ℕ)
value_lines interned prefix name =
    (value_line name ∷ [] ++ line_if interned (builder_value prefix))
    ++ codes "_priv: ()," ∷ codes "}" ∷ codes "}" ∷ [] ∷ codes "#[allow(dead_code)]" ∷ []

-- all of these
abbrev pub parser_front : Bool → List ℕ → List ℕ → List ℕ → List ℕ → List (List ℕ)
parser_front interned action_module prefix visibility name =
    (struct_lines interned prefix visibility name ++ impl_lines interned action_module prefix visibility name)
    ++ value_lines interned prefix name

-- the further type parameters of `parse`: tokens, and what gives them
abbrev pub token_bound : List ℕ → List TypeParameter → List ℕ
token_bound prefix generics =
    prefix ++ (codes "TOKEN: " ++ (prefix ++ (codes "ToTriple<" ++ (each_with_comma (map parameter_text generics) ++ codes ">"))))

abbrev pub clone_bound : Bool → List ℕ
clone_bound repeatable = if repeatable then codes " + Clone" else []

unfoldable pub token_iterator : Bool → List ℕ → List ℕ
token_iterator repeatable prefix = codes "IntoIterator<Item=" ++ (prefix ++ (codes "TOKEN>" ++ clone_bound repeatable))

abbrev pub tokens_bound : Bool → List ℕ → List ℕ
tokens_bound repeatable prefix = prefix ++ (codes "TOKENS: " ++ token_iterator repeatable prefix)

abbrev pub token_generics : Bool → Bool → List ℕ → List TypeParameter → List (List ℕ)
token_generics interned repeatable prefix generics =
    if interned then [] else token_bound prefix generics ∷ tokens_bound repeatable prefix ∷ []

-- the further parameter of `parse`
abbrev pub tokens_parameter : List ℕ → List ℕ
tokens_parameter prefix = prefix ++ (codes "tokens0: " ++ (prefix ++ codes "TOKENS"))

abbrev pub token_parameters : Bool → List ℕ → List (List ℕ)
token_parameters interned prefix = if interned then [] else tokens_parameter prefix ∷ []

-- what `parse` answers
abbrev pub parse_answer : List ℕ → List ℕ → List ℕ
parse_answer ty error = codes "Result<" ++ (ty ++ (codes ", " ++ (error ++ codes ">")))

-- a parameter as it is declared
abbrev pub declared_text : Parameter → List ℕ
declared_text p = p.name ++ (codes ": " ++ type_text p.ty)

-- the lists of the grammar, then what is further
abbrev pub generic_texts : Grammar → List (List ℕ) → List (List ℕ)
generic_texts g others = map parameter_text g.type_parameters ++ others

abbrev pub declared_texts : Grammar → List (List ℕ) → List (List ℕ)
declared_texts g others = (codes "&self" ∷ [] ++ map declared_text g.parameters) ++ others

-- the header of `parse`
abbrev pub parse_header : Grammar → List (List ℕ) → List (List ℕ) → List ℕ → Header
parse_header g generics parameters answer = record {
  name = codes "parse";
  type_parameters = generic_texts g generics;
  parameters = declared_texts g parameters;
  return_type = Some answer;
  where_clauses = map clause_text g.where_clauses;
}

-- where the tokens come from
abbrev pub source_line : Bool → List ℕ → List ℕ
source_line repeatable prefix =
    codes "let " ++ (prefix ++ (codes "tokens = " ++ (prefix ++ (codes "tokens0" ++ ((if repeatable then codes ".clone()" else []) ++ codes ".into_iter();")))))

abbrev pub triples_line : List ℕ → List ℕ
triples_line prefix =
    codes "let mut " ++ (prefix ++ (codes "tokens = " ++ (prefix ++ (codes "tokens.map(|t| " ++ (prefix ++ codes "ToTriple::to_triple(t));")))))

abbrev pub matcher_line : List ℕ → List ℕ
matcher_line prefix = codes "let mut " ++ (prefix ++ codes "tokens = self.builder.matcher(input);")

abbrev pub token_source : Bool → Bool → List ℕ → List (List ℕ)
token_source interned repeatable prefix =
    if interned then matcher_line prefix ∷ [] else source_line repeatable prefix ∷ triples_line prefix ∷ []
