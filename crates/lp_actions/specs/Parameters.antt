-- The parameters of action functions, and what these return.
use Rattle.std.specs.Prelude.{◌≡◌, ℕ, ◌+◌, nat_lt, Bool, List, [], ◌∷◌, ◌++◌, length, slice_get, string_bytes, codes, decimal, Option, Some, None, if◌then◌else◌}
use Rattle.std.specs.List.{flat_map, list_any}
use Rattle.lp_repr.specs.ShownTypes.{type_text}
use Rattle.lp_repr.specs.declared.repr.ActionFnDefn.{ActionFnDefn}
use Rattle.lp_repr.specs.declared.repr.ActionFnDefnKind.{ActionFnDefnKind}
use Rattle.lp_repr.specs.declared.repr.ActionFnDefnKind.TheVariants.{User, Lookaround, Inline}
use Rattle.lp_repr.specs.declared.repr.Grammar.{Grammar}
use Rattle.lp_repr.specs.declared.repr.InlinedSymbol.{InlinedSymbol}
use Rattle.lp_repr.specs.declared.repr.InlinedSymbol.TheVariants.{Original, Inlined}
use Rattle.lp_repr.specs.declared.repr.Symbol.{Symbol}
use Rattle.lp_repr.specs.declared.repr.TypeRepr.{TypeRepr}
use Rattle.lp_parts.specs.Texts.{error_text, location_text, spanned_of, token_text}
use Rattle.lp_parts.specs.declared.texts.TypeTexts.{TypeTexts}
use Rattle.lp_table.specs.Starts.{symbol_type}

-- these texts are those of a grammar's types
pub record AreTypesOf (g : Grammar) (t : TypeTexts) : Type 0 where
  pub location : string_bytes t.location ≡ location_text g
  pub token : string_bytes t.token ≡ token_text g
  pub error : string_bytes t.error ≡ error_text g

-- an argument of user code with its span, where it has a type
abbrev pub user_parameter : Grammar → List ℕ → TypeRepr → List ℕ
user_parameter g pattern ty = codes "(_, " ++ (pattern ++ (codes ", _): " ++ spanned_of (location_text g) (type_text ty)))

abbrev pub user_if : Grammar → List ℕ → Option TypeRepr → List (List ℕ)
user_if g pattern None = []
user_if g pattern (Some ty) = user_parameter g pattern ty ∷ []

-- the arguments of user code, with the types from a number on
abbrev pub user_from : Grammar → List TypeRepr → ℕ → List (List ℕ) → List (List ℕ)
user_from g types n [] = []
user_from g types n (pattern ∷ patterns) = user_if g pattern (slice_get types n) ++ user_from g types (n + 1) patterns

-- the locations around an action that takes no symbols
abbrev pub behind_parameter : List ℕ → List ℕ → List ℕ
behind_parameter prefix location = prefix ++ (codes "lookbehind: &" ++ location)

abbrev pub ahead_parameter : List ℕ → List ℕ → List ℕ
ahead_parameter prefix location = prefix ++ (codes "lookahead: &" ++ location)

abbrev pub place_parameters : Grammar → List (List ℕ)
place_parameters g = behind_parameter g.prefix (location_text g) ∷ ahead_parameter g.prefix (location_text g) ∷ []

-- how many arguments a symbol stands for, and which symbols
abbrev pub width : InlinedSymbol → ℕ
width (Original s) = 1
width (Inlined action symbols) = length symbols

abbrev pub takes_any : List InlinedSymbol → Bool
takes_any symbols = list_any (λ s. nat_lt 0 (width s)) symbols

abbrev pub symbols_of : InlinedSymbol → List Symbol
symbols_of (Original s) = s ∷ []
symbols_of (Inlined action symbols) = symbols

-- the arguments from a number on, each with its span
abbrev pub inline_parameter : Grammar → ℕ → Symbol → List ℕ
inline_parameter g n s = g.prefix ++ (decimal n ++ (codes ": " ++ spanned_of (location_text g) (type_text (symbol_type g s))))

abbrev pub inline_parameters : Grammar → ℕ → List Symbol → List (List ℕ)
inline_parameters g n [] = []
inline_parameters g n (s ∷ ss) = inline_parameter g n s ∷ inline_parameters g (n + 1) ss

-- the parameters of an action besides those of the grammar
abbrev pub action_parameters : Grammar → ActionFnDefnKind → List (List ℕ)
action_parameters g (User [] types code) = place_parameters g
action_parameters g (User (p ∷ ps) types code) = user_from g types 0 (p ∷ ps)
action_parameters g (Lookaround place) = place_parameters g
action_parameters g (Inline action symbols) =
    if takes_any symbols then inline_parameters g 0 (flat_map symbols_of symbols) else place_parameters g

-- the result of a fallible action
abbrev pub result_of : List ℕ → List ℕ → List ℕ → List ℕ → List ℕ → List ℕ
result_of prefix ty location token error =
    codes "Result<" ++ (ty ++ (codes "," ++ (prefix ++ (codes "lalrpop_util::ParseError<" ++ (location ++ (codes "," ++ (token ++ (codes "," ++ (error ++ codes ">>")))))))))

-- what an action's function returns
abbrev pub return_text : Grammar → ActionFnDefn → List ℕ
return_text g a =
    if a.fallible then result_of g.prefix (type_text a.ret_type) (location_text g) (token_text g) (error_text g)
    else type_text a.ret_type
