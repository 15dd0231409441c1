-- What the parameters of an action's function bind.
use Rattle.std.specs.Prelude.{ℕ, ◌+◌, List, [], ◌∷◌, ◌++◌, map, codes, decimal, if◌then◌else◌}
use Rattle.lp_repr.specs.declared.repr.ActionFnDefnKind.{ActionFnDefnKind}
use Rattle.lp_repr.specs.declared.repr.ActionFnDefnKind.TheVariants.{User, Lookaround, Inline}
use Rattle.lp_repr.specs.declared.repr.Grammar.{Grammar}
use Rattle.std.specs.List.{flat_map}
use Rattle.lp_table.specs.Headers.{names_of}
use Rattle.lp_maker.specs.Texts.{Binding, Triple, Named}
use Rattle.lp_actions.specs.Parameters.{takes_any, symbols_of}

-- a triple for each argument of user code
abbrev pub triples : List (List ℕ) → List Binding
triples patterns = map (λ p. Triple) patterns

-- the locations around an action that takes no symbols
abbrev pub places : List ℕ → List Binding
places prefix = Named (prefix ++ codes "lookbehind") ∷ Named (prefix ++ codes "lookahead") ∷ []

-- so many arguments by number
abbrev pub numbered : {A : Type 0} → List ℕ → ℕ → List A → List Binding
numbered prefix n [] = []
numbered prefix n (x ∷ xs) = Named (prefix ++ decimal n) ∷ numbered prefix (n + 1) xs

-- those of an action
abbrev pub own_bindings : List ℕ → ActionFnDefnKind → List Binding
own_bindings prefix (User [] types code) = places prefix
own_bindings prefix (User (p ∷ ps) types code) = triples (p ∷ ps)
own_bindings prefix (Lookaround place) = places prefix
own_bindings prefix (Inline action symbols) = if takes_any symbols then numbered prefix 0 (flat_map symbols_of symbols) else places prefix

-- those of the grammar come first
abbrev pub bindings_of : Grammar → ActionFnDefnKind → List Binding
bindings_of g kind = map Named (names_of g) ++ own_bindings g.prefix kind
