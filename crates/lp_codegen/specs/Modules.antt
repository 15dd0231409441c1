-- The lines that stand around what a module has of its own.
use Rattle.std.specs.Prelude.{ℕ, Bool, List, [], ◌∷◌, ◌++◌, codes, if◌then◌else◌}

-- a line, where it is asked for
abbrev pub line_if : Bool → List ℕ → List (List ℕ)
line_if asked text = if asked then text ∷ [] else []

-- what the compiler is told to let pass in a module
unfoldable pub allowed_lints : List ℕ
allowed_lints =
    codes "#[allow(explicit_outlives_requirements, non_snake_case, non_camel_case_types, unused_mut, unused_variables, unused_imports, unused_parens, clippy::needless_lifetimes, clippy::type_complexity, clippy::needless_return, clippy::too_many_arguments, clippy::match_single_binding, clippy::clone_on_copy, clippy::unit_arg)]"

-- the line that opens the module of a start nonterminal
abbrev pub module_line : List ℕ → List ℕ → List ℕ
module_line prefix start = codes "mod " ++ (prefix ++ (codes "parse" ++ (start ++ codes " {")))

-- the lines before the uses
abbrev pub module_head : List ℕ → List ℕ → List (List ℕ)
module_head prefix start =
    [] ∷ codes "#[rustfmt::skip]" ∷ allowed_lints ∷ module_line prefix start ∷ [] ∷ []

-- where the token type, or the trait of the tokens, comes from
abbrev pub token_use : Bool → List ℕ → List ℕ → List ℕ
token_use interned action_module prefix =
    if interned
    then codes "use self::" ++ (prefix ++ codes "lalrpop_util::lexer::Token;")
    else codes "use " ++ (action_module ++ (codes "::" ++ (prefix ++ codes "ToTriple;")))

-- the path of an action module, in front of what it has
abbrev pub inside_of : List ℕ → List ℕ
inside_of action_module = action_module ++ codes "::"
