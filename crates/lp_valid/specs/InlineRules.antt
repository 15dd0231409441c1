-- What a valid grammar says of inlines: they have a symbol and don't reach themselves.
use Rattle.std.specs.Prelude.{◌≡◌, ℕ, Bool, true, List, [], ◌∷◌, length, Some, IsTrue, IfSome, slice_get, nat_lt}
use Rattle.std.specs.List.{list_all, flat_map, Contains}
use Rattle.lp_repr.specs.declared.repr.ActionFnDefn.{ActionFnDefn}
use Rattle.lp_repr.specs.declared.repr.ActionFnDefnKind.{ActionFnDefnKind}
use Rattle.lp_repr.specs.declared.repr.ActionFnDefnKind.TheVariants as kind
use Rattle.lp_repr.specs.declared.repr.InlinedSymbol.{InlinedSymbol}
use Rattle.lp_repr.specs.declared.repr.InlinedSymbol.TheVariants as part
use Rattle.lp_valid.specs.Places.{EachPasses, Both}

-- the action that a symbol of an inline runs, if it is a part
abbrev pub part_runs : InlinedSymbol → List ℕ
part_runs (part.Original symbol) = []
part_runs (part.Inlined action symbols) = action ∷ []

-- the actions that an action runs: an inline's outer action and those of its parts
abbrev pub kind_runs : ActionFnDefnKind → List ℕ
kind_runs (kind.User patterns types code) = []
kind_runs (kind.Lookaround which) = []
kind_runs (kind.Inline outer parts) = outer ∷ flat_map part_runs parts

-- the action of the first number runs that of the second
abbrev pub Runs : List ActionFnDefn → ℕ → ℕ → Type 0
Runs actions from to = (a : ActionFnDefn) × (slice_get actions from ≡ Some a) × Contains (kind_runs a.kind) to

-- an action reaches those that it runs, and those that they run, and so on
pub data Reaches (actions : List ActionFnDefn) (from : ℕ) : ℕ → Type 0 where
  runs : (to : ℕ) → Runs actions from to → Reaches actions from to
  onward : (by to : ℕ) → Reaches actions from by → Runs actions by to → Reaches actions from to

-- the action of this number runs lesser ones alone
abbrev pub RunsLesser : List ActionFnDefn → ℕ → Type 0
RunsLesser actions number = IfSome (slice_get actions number) (λ a. IsTrue (list_all (λ b. nat_lt b number) (kind_runs a.kind)))

-- an inline has a symbol
abbrev pub kind_has_symbol : ActionFnDefnKind → Bool
kind_has_symbol (kind.User patterns types code) = true
kind_has_symbol (kind.Lookaround which) = true
kind_has_symbol (kind.Inline outer parts) = nat_lt 0 (length parts)

-- an inline has a symbol, and no action reaches itself
abbrev pub InlineIsSound : List ActionFnDefn → ℕ → Type 0
InlineIsSound actions = Both (EachPasses (λ a. kind_has_symbol a.kind) actions) (λ place. ¬ Reaches actions place place)
