-- What the check of tables tells of the lists of states, one per start.
use Rattle.std.specs.Prelude.{◌≡◌, ℕ, ◌<◌, ◌⊎◌, List, MatchOption, slice_get}
use Rattle.lp_repr.specs.declared.lr1.StartStates.{StartStates}
use Rattle.lp_repr.specs.declared.repr.Grammar.{Grammar}
use Rattle.lp_emitted.specs.Emittable.{IsListed, IsTabled}
use Rattle.lp_tables.specs.Refusals.{RefusesTables}
use Rattle.lp_tables.specs.declared.check.TableFault.TheVariants.{Rule}

-- the start has its list, and in the tables of the list this state is the least at which a rule fails, and
-- this rule the least that fails there
abbrev pub FailsByTables : Grammar → List StartStates → ℕ → ℕ → ℕ → Type 0
FailsByTables g states start state rule = IsListed g states start × MatchOption (slice_get states start) ⊥ (λ list. RefusesTables g start list.states (Rule rule state))

-- the lists of all lesser starts are there and valid; this start lacks its list, which is rule 1 at state 0,
-- or its tables aren't valid
abbrev pub IsTableFailure : Grammar → List StartStates → ℕ → ℕ → ℕ → Type 0
IsTableFailure g states start state rule =
    ((earlier : ℕ) → earlier < start → IsTabled g states earlier)
    × (((rule ≡ 1) × (state ≡ 0) × (¬ IsListed g states start)) ⊎ FailsByTables g states start state rule)
