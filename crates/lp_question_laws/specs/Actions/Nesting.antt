-- How deep actions run one another, and what a call of one costs.
use Rattle.std.specs.Prelude.{ℕ, zero, suc, ◌+◌, ◌≤◌, List, length, sum_by, slice_get}
use Rattle.std.specs.Option.{option_map_or}
use Rattle.lp_repr.specs.declared.repr.ActionFnDefn.{ActionFnDefn}
use Rattle.lp_repr.specs.declared.repr.ActionFnDefnKind.{ActionFnDefnKind}
use Rattle.lp_repr.specs.declared.repr.ActionFnDefnKind.TheVariants.{User, Lookaround, Inline}
use Rattle.lp_repr.specs.declared.repr.Grammar.{Grammar}
use Rattle.lp_valid.specs.InlineRules.{Runs}

-- an action and its symbols
abbrev pub size_of : ActionFnDefnKind → ℕ
size_of (User patterns types code) = 1
size_of (Lookaround place) = 1
size_of (Inline outer symbols) = 1 + length symbols

-- those of all actions
abbrev pub actions_size : List ActionFnDefn → ℕ
actions_size actions = sum_by (λ a. size_of a.kind) actions

-- that of a number, if it is there
abbrev pub size_at : List ActionFnDefn → ℕ → ℕ
size_at actions n = option_map_or (λ a. size_of a.kind) (slice_get actions n) 0

-- the action of this number runs others less than so deep, all of which together are no greater than this
abbrev pub NestsWithin : List ActionFnDefn → ℕ → ℕ → ℕ → Type 0
NestsWithin actions zero most a = ⊥
NestsWithin actions (suc depth) most a = (less : ℕ) × (less + size_at actions a ≤ most) × ((b : ℕ) → Runs actions a b → NestsWithin actions depth less b)

-- how many steps a call of an action makes at most for each call of user code, and once more
abbrev pub action_cost : Grammar → ℕ
action_cost g = actions_size g.action_fn_defns
