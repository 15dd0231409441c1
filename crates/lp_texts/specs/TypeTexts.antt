-- The texts of types in their order.
use Rattle.std.specs.Prelude.{ℕ, List, [], ◌∷◌, ◌++◌, map, Option, Some, None}
use Rattle.std.specs.List.{flat_map}
use Rattle.std.specs.BTreeMap.{values}
use Rattle.lp_repr.specs.declared.repr.ActionFnDefn.{ActionFnDefn}
use Rattle.lp_repr.specs.declared.repr.ActionFnDefnKind.{ActionFnDefnKind}
use Rattle.lp_repr.specs.declared.repr.ActionFnDefnKind.TheVariants as action
use Rattle.lp_repr.specs.declared.repr.Grammar.{Grammar}
use Rattle.lp_repr.specs.declared.repr.TypeRepr.{TypeRepr}
use Rattle.lp_repr.specs.declared.repr.Types.{Types}
use Rattle.lp_repr.specs.Shown.{parameter_text, visibility_text}
use Rattle.lp_repr.specs.ShownTypes.{type_text, clause_text}

-- a type, if there is one
abbrev pub optional_text : Option TypeRepr → List (List ℕ)
optional_text None = []
optional_text (Some ty) = type_text ty ∷ []

-- the location, token and error type, those of the terminals and of the nonterminals
abbrev pub declared_texts : Types → List (List ℕ)
declared_texts types =
    optional_text types.loc
    ++ ((type_text types.token ∷ [])
    ++ (optional_text types.error
    ++ (map type_text (values types.terminals)
    ++ map type_text (values types.nonterminals))))

-- the type parameters, the types of the parameters, the where clauses, the visibilities of nonterminals
abbrev pub header_texts : Grammar → List (List ℕ)
header_texts g =
    map parameter_text g.type_parameters
    ++ (map (λ p. type_text p.ty) g.parameters
    ++ (map clause_text g.where_clauses
    ++ map (λ d. visibility_text d.visibility) (values g.nonterminals)))

-- the types of an action's arguments
abbrev pub argument_texts : ActionFnDefnKind → List (List ℕ)
argument_texts (action.User patterns types code) = map type_text types
argument_texts (action.Lookaround which) = []
argument_texts (action.Inline outer parts) = []

-- the argument types per action, and the return types of the actions
abbrev pub action_texts : List ActionFnDefn → List (List ℕ)
action_texts actions = flat_map (λ a. argument_texts a.kind) actions ++ map (λ a. type_text a.ret_type) actions

-- all of them
abbrev pub type_texts : Grammar → List (List ℕ)
type_texts g = declared_texts g.types ++ (header_texts g ++ action_texts g.action_fn_defns)
