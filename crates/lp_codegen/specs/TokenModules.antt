-- The module of tokens of a grammar without an enum of its own.
use Rattle.std.specs.Prelude.{ℕ, List, [], ◌∷◌, ◌++◌, map, not, codes, if◌then◌else◌}
use Rattle.std.specs.List.{list_any}
use Rattle.lp_repr.specs.Escapes.{escaped_text}
use Rattle.lp_repr.specs.declared.repr.Grammar.{Grammar}
use Rattle.lp_repr.specs.declared.repr.MatchEntry.{MatchEntry}
use Rattle.lp_write.specs.Uses.{all_uses}
use Rattle.lp_codegen.specs.Modules.{line_if}

-- the line that opens the module
abbrev pub opening_line : List ℕ → List ℕ
opening_line prefix = codes "mod " ++ (prefix ++ codes "intern_token {")

-- the lines before the uses
abbrev pub token_head : List ℕ → List (List ℕ)
token_head prefix = codes "#[rustfmt::skip]" ∷ opening_line prefix ∷ codes "#![allow(unused_imports)]" ∷ []

-- the function that makes a matcher, up to its list
abbrev pub function_line : List ℕ → List ℕ
function_line prefix = codes "pub fn new_builder() -> " ++ (prefix ++ codes "lalrpop_util::lexer::MatcherBuilder {")

abbrev pub list_line : List ℕ → List ℕ
list_line prefix = codes "let " ++ (prefix ++ codes "strs: &[(&str, bool)] = &[")

abbrev pub builder_head : List ℕ → List (List ℕ)
builder_head prefix = function_line prefix ∷ list_line prefix ∷ []

-- a regular expression as a literal, and whether its matches are skipped
abbrev pub entry_line : MatchEntry → List ℕ
entry_line e =
    codes "(" ++ (escaped_text e.regex ++ (codes ", " ++ ((if e.skip then codes "true" else codes "false") ++ codes "),")))

-- white space is skipped where nothing else is
abbrev pub white_space : List ℕ
white_space = codes "(r\"\\s+\", true),"

abbrev pub row_lines : List MatchEntry → List (List ℕ)
row_lines entries = map entry_line entries ++ line_if (not (list_any (λ e. e.skip) entries)) white_space

-- what makes a matcher of the list, and the brackets that close the function and the module
abbrev pub matcher_line : List ℕ → List ℕ
matcher_line prefix =
    prefix ++ (codes "lalrpop_util::lexer::MatcherBuilder::new(" ++ (prefix ++ codes "strs.iter().copied()).unwrap()"))

abbrev pub builder_end : List ℕ → List (List ℕ)
builder_end prefix = codes "];" ∷ matcher_line prefix ∷ codes "}" ∷ codes "}" ∷ []

-- the lines after the uses
abbrev pub builder_lines : List ℕ → List MatchEntry → List (List ℕ)
builder_lines prefix entries = (builder_head prefix ++ row_lines entries) ++ builder_end prefix

-- the lines of the module
abbrev pub token_module : Grammar → List MatchEntry → List (List ℕ)
token_module g entries =
    (token_head g.prefix ++ all_uses (codes "super::") g.prefix g.uses) ++ builder_lines g.prefix entries
