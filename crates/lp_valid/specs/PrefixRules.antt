-- What a valid grammar says of its prefix: a start's name begins with it, and no other name, pattern, use or attribute holds it, nor a type but inside the error terminal's type.
use Rattle.std.specs.Prelude.{ℕ, String, ◌==◌, Bool, true, false, not, ◌&&◌, ◌||◌, List, [], ◌∷◌, ◌++◌, length, drop, codes, nat_eq, Option, None, Some, string_bytes}
use Rattle.std.specs.BTreeMap.{values}
use Rattle.std.specs.Global.{Global}
use Rattle.std.specs.List.{list_any, list_all, starts_with}
use Rattle.std.specs.Option.{option_to_list}
use Rattle.lp_repr.specs.Names.{same_text, same_nonterminal}
use Rattle.lp_repr.specs.Numbering.{nonterminals_of}
use Rattle.lp_repr.specs.Shown.{pattern_text, parameter_text}
use Rattle.lp_repr.specs.contracts.repr.TypeReprPartialEq.TheImpl as equality
use Rattle.lp_repr.specs.declared.parse_tree.Path.{Path}
use Rattle.lp_repr.specs.declared.parse_tree.TypeParameter.{TypeParameter}
use Rattle.lp_repr.specs.declared.repr.Grammar.{Grammar}
use Rattle.lp_repr.specs.declared.repr.NonterminalString.{NonterminalString}
use Rattle.lp_repr.specs.declared.repr.TypeRepr.{TypeRepr, Tuple', Slice', Nominal', Associated, TraitObject', Lifetime, Ref', Fn', Row_of-TypeRepr, end_of-TypeRepr, more_of-TypeRepr, items-the_row-TypeRepr, Held-TypeRepr-Fn-3, None', Some'}
use Rattle.lp_repr.specs.declared.repr.Types.{Types}
use Rattle.lp_valid.specs.Places.{EachPasses, Then}

-- the text holds the prefix: it stands at the front or further on
abbrev pub holds_prefix : List ℕ → List ℕ → Bool
holds_prefix prefix [] = starts_with nat_eq [] prefix
holds_prefix prefix (c ∷ cs) = starts_with nat_eq (c ∷ cs) prefix || holds_prefix prefix cs

abbrev pub lacks : List ℕ → List ℕ → Bool
lacks prefix text = not (holds_prefix prefix text)

-- the types are equal
abbrev pub same_type : TypeRepr → TypeRepr → Bool
same_type = (equality.ghosts).eq

-- the type `()`
abbrev pub is_unit : TypeRepr → Bool
is_unit (Tuple' shape types) = length (items-the_row-TypeRepr _ types) == 0
is_unit (Slice' p element) = false
is_unit (Nominal' path shape types) = false
is_unit (TraitObject' path shape types) = false
is_unit (Associated name id) = false
is_unit (Lifetime name) = false
is_unit (Ref' lifetime mutable p referent) = false
is_unit (Fn' binder path shape types ret) = false

-- a path of this name alone
abbrev pub is_one_name : List ℕ → List (List ℕ) → Bool
is_one_name name [] = false
is_one_name name (one ∷ []) = same_text one name
is_one_name name (one ∷ (other ∷ names)) = false

-- the type `str`
abbrev pub is_str : TypeRepr → Bool
is_str (Tuple' shape types) = false
is_str (Slice' p element) = false
is_str (Nominal' path shape types) = (length (items-the_row-TypeRepr _ types) == 0) && (not path.absolute && is_one_name (codes "str") path.ids)
is_str (TraitObject' path shape types) = false
is_str (Associated name id) = false
is_str (Lifetime name) = false
is_str (Ref' lifetime mutable p referent) = false
is_str (Fn' binder path shape types ret) = false

-- the lifetime `'static`
abbrev pub is_static : Option (String Global) → Bool
is_static None = false
is_static (Some name) = same_text (string_bytes name) (codes "'static")

-- the type `&'static str`
abbrev pub is_static_str : TypeRepr → Bool
is_static_str (Tuple' shape types) = false
is_static_str (Slice' p element) = false
is_static_str (Nominal' path shape types) = false
is_static_str (TraitObject' path shape types) = false
is_static_str (Associated name id) = false
is_static_str (Lifetime name) = false
is_static_str (Ref' lifetime mutable p referent) = not mutable && (is_static lifetime && is_str referent)
is_static_str (Fn' binder path shape types ret) = false

-- the location type, `()` where the grammar has none
abbrev pub is_location : Option TypeRepr → TypeRepr → Bool
is_location None ty = is_unit ty
is_location (Some location) ty = same_type ty location

-- the error type, `&'static str` where the grammar has none
abbrev pub is_user_error : Option TypeRepr → TypeRepr → Bool
is_user_error None ty = is_static_str ty
is_user_error (Some error) ty = same_type ty error

-- the names `lalrpop_util`, with the prefix before it, and `ErrorRecovery`
abbrev pub are_error_names : List ℕ → List (List ℕ) → Bool
are_error_names prefix [] = false
are_error_names prefix (first ∷ []) = false
are_error_names prefix (first ∷ (name ∷ [])) = (starts_with nat_eq first prefix && same_text (drop (length prefix) first) (codes "lalrpop_util")) && same_text name (codes "ErrorRecovery")
are_error_names prefix (first ∷ (name ∷ (other ∷ names))) = false

-- the types of locations, tokens and errors
abbrev pub are_error_arguments : Types → List TypeRepr → Bool
are_error_arguments types [] = false
are_error_arguments types (location ∷ []) = false
are_error_arguments types (location ∷ (token ∷ [])) = false
are_error_arguments types (location ∷ (token ∷ (error ∷ []))) = (is_location types.loc location && same_type token types.token) && is_user_error types.error error
are_error_arguments types (location ∷ (token ∷ (error ∷ (other ∷ more)))) = false

-- the path and the arguments of the error terminal's type
abbrev pub is_error_type : List ℕ → Types → Path → List TypeRepr → Bool
is_error_type prefix types path arguments = (not path.absolute && are_error_names prefix path.ids) && are_error_arguments types arguments

-- a lifetime that doesn't hold the prefix
abbrev pub is_clear_lifetime : List ℕ → Option (String Global) → Bool
is_clear_lifetime prefix None = true
is_clear_lifetime prefix (Some name) = lacks prefix (string_bytes name)

-- what is printed between `&` and a type: a lifetime, and `mut` where it stands
abbrev pub is_clear_reference : List ℕ → Option (String Global) → Bool → Bool
is_clear_reference prefix lifetime mutable = is_clear_lifetime prefix lifetime && (not mutable || lacks prefix (codes "mut"))

-- a binder, which prints `for` and its names, or nothing
abbrev pub is_clear_binder : List ℕ → List TypeParameter → Bool
is_clear_binder prefix [] = true
is_clear_binder prefix (b ∷ bs) = lacks prefix (codes "for") && list_all (λ b. lacks prefix (parameter_text b)) (b ∷ bs)

-- what is printed before the parameters of a function: `dyn`, the binder and the path
abbrev pub is_clear_head : List ℕ → List TypeParameter → Path → Bool
is_clear_head prefix binder path = lacks prefix (codes "dyn") && (is_clear_binder prefix binder && list_all (lacks prefix) path.ids)

abbrev mutual
  -- no word that is printed for the type holds the prefix, but inside the error terminal's type
  pub is_clear : List ℕ → Types → TypeRepr → Bool
  is_clear prefix types (Tuple' shape parts) = is_clear_row prefix types parts
  is_clear prefix types (Slice' p element) = is_clear prefix types element
  is_clear prefix types (Nominal' path shape arguments) = is_error_type prefix types path (items-the_row-TypeRepr _ arguments) || (list_all (lacks prefix) path.ids && is_clear_row prefix types arguments)
  is_clear prefix types (TraitObject' path shape arguments) = lacks prefix (codes "dyn") && (list_all (lacks prefix) path.ids && is_clear_row prefix types arguments)
  is_clear prefix types (Associated name id) = lacks prefix (string_bytes name) && lacks prefix (string_bytes id)
  is_clear prefix types (Lifetime name) = lacks prefix (string_bytes name)
  is_clear prefix types (Ref' lifetime mutable p referent) = is_clear_reference prefix lifetime mutable && is_clear prefix types referent
  is_clear prefix types (Fn' binder path shape parameters ret) = is_clear_head prefix binder.items path && (is_clear_row prefix types parameters && is_clear_ret prefix types ret)

  -- of a list of types
  pub is_clear_row : {m : _} → List ℕ → Types → Row_of-TypeRepr m → Bool
  is_clear_row prefix types end_of-TypeRepr = true
  is_clear_row prefix types (more_of-TypeRepr ty more) = is_clear prefix types ty && is_clear_row prefix types more

  -- of a result
  pub is_clear_ret : List ℕ → Types → Held-TypeRepr-Fn-3 → Bool
  is_clear_ret prefix types None' = true
  is_clear_ret prefix types (Some' p ty) = is_clear prefix types ty

-- the types of a grammar: of locations, where there are, of tokens, of errors, where there are, and of terminals and nonterminals in key order
abbrev pub types_of : Types → List TypeRepr
types_of types = option_to_list types.loc ++ (types.token ∷ (option_to_list types.error ++ (values types.terminals ++ values types.nonterminals)))

-- a nonterminal without the prefix, or a start
abbrev pub lacks_or_starts : Grammar → NonterminalString → Bool
lacks_or_starts g n = lacks g.prefix n.0 || list_any (λ s. same_nonterminal s n) (values g.start_nonterminals)

-- the rule on the prefix, from its last list on: attributes
abbrev pub AttributesLack : Grammar → ℕ → Type 0
AttributesLack g = EachPasses (lacks g.prefix) g.module_attributes

abbrev pub UsesLack : Grammar → ℕ → Type 0
UsesLack g = Then (length g.uses) (EachPasses (lacks g.prefix) g.uses) (AttributesLack g)

abbrev pub PatternsLack : Grammar → ℕ → Type 0
PatternsLack g = Then (length (values g.conversions)) (EachPasses (λ p. lacks g.prefix (pattern_text p)) (values g.conversions)) (UsesLack g)

abbrev pub ReturnTypesAreClear : Grammar → ℕ → Type 0
ReturnTypesAreClear g = Then (length g.action_fn_defns) (EachPasses (λ a. is_clear g.prefix g.types a.ret_type) g.action_fn_defns) (PatternsLack g)

abbrev pub TypesAreClear : Grammar → ℕ → Type 0
TypesAreClear g = Then (length (types_of g.types)) (EachPasses (is_clear g.prefix g.types) (types_of g.types)) (ReturnTypesAreClear g)

abbrev pub ParametersLack : Grammar → ℕ → Type 0
ParametersLack g = Then (length g.parameters) (EachPasses (λ p. lacks g.prefix p.name) g.parameters) (TypesAreClear g)

abbrev pub NonterminalsLack : Grammar → ℕ → Type 0
NonterminalsLack g = Then (length (nonterminals_of g)) (EachPasses (lacks_or_starts g) (nonterminals_of g)) (ParametersLack g)

-- the whole rule: starts first
abbrev pub PrefixIsApart : Grammar → ℕ → Type 0
PrefixIsApart g = Then (length (values g.start_nonterminals)) (EachPasses (λ s. starts_with nat_eq s.0 g.prefix) (values g.start_nonterminals)) (NonterminalsLack g)
