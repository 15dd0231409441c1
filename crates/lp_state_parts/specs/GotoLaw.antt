-- What a goto function answers.
use Rattle.std.specs.Prelude.{ℕ, zero, suc, ◌≡◌, ◌==◌, ◌<◌, List, [], ◌∷◌, Option, Some, None, map, length, if◌then◌else◌}
use Rattle.std.specs.List.{remove}
use Rattle.std.specs.Ordering.{nat_cmp}
use Rattle.std.specs.BTreeMap.{get}
use Rattle.lp_repr.specs.declared.lr1.Lr1State.{Lr1State}
use Rattle.lp_state_parts.specs.declared.gotos.GotoArm.{GotoArm}
use Rattle.lp_state_parts.specs.declared.gotos.Gotos.{Gotos}
use Rattle.lp_state_parts.specs.declared.gotos.Gotos.TheVariants.{Nowhere, One, Several}
use Rattle.lp_state_parts.specs.Gotos.{IsCatchAll, range_counts, target_in}

-- the goto of the state of a number
abbrev pub goto_at : List Lr1State → ℕ → ℕ → Option ℕ
goto_at [] nonterminal i = None
goto_at (s ∷ ss) nonterminal zero = get nat_cmp s.gotos nonterminal
goto_at (s ∷ ss) nonterminal (suc i) = goto_at ss nonterminal i

-- the entry of a state in a column
abbrev pub entry_at : List (ℕ × ℕ) → ℕ → Option ℕ
entry_at [] s = None
entry_at (e ∷ es) s = if e.0 == s then Some e.1 else entry_at es s

-- the target of the arm at a place
abbrev pub target_at : List GotoArm → ℕ → ℕ
target_at [] i = 0
target_at (a ∷ arms) zero = a.target
target_at (a ∷ arms) (suc i) = target_at arms i

-- what a goto function has of these arms: none, the one target, or the arms but the catch-all and
-- the target of that
abbrev pub IsGotosOf : List GotoArm → Gotos → Type 0
IsGotosOf arms Nowhere = arms ≡ []
IsGotosOf arms (One target) = map (λ a. a.target) arms ≡ target ∷ []
IsGotosOf arms (Several rest other) =
    (c : ℕ) × ((1 < length arms) × IsCatchAll (range_counts arms) c × (rest ≡ remove arms c) × (other ≡ target_at arms c))

-- what a goto function answers for a state
abbrev pub answer : Gotos → ℕ → ℕ
answer Nowhere s = 0
answer (One target) s = target
answer (Several rest other) s = target_in rest other s
