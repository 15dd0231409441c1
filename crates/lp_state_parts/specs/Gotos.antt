-- The goto function of one nonterminal: the states that have a goto, in ranges, by target.
use Rattle.std.specs.Prelude.{ℕ, ◌+◌, ◌<◌, ◌==◌, ◌&&◌, nat_lt, nat_le, Bool, List, [], ◌∷◌, Option, Some, None, ◌≤◌, map, length, slice_index, if◌then◌else◌}
use Rattle.std.specs.List.{list_any}
use Rattle.std.specs.Ordering.{nat_cmp}
use Rattle.std.specs.BTreeMap.{get}
use Rattle.lp_repr.specs.declared.lr1.Lr1State.{Lr1State}
use Rattle.lp_state_parts.specs.declared.gotos.StateRange.{StateRange}
use Rattle.lp_state_parts.specs.declared.gotos.GotoArm.{GotoArm}

-- a state's goto in front of those of later states, where it has one
abbrev pub with_goto : ℕ → Option ℕ → List (ℕ × ℕ) → List (ℕ × ℕ)
with_goto state (Some target) later = (state, target) ∷ later
with_goto state None later = later

-- the states, numbered from one on, that have a goto on a nonterminal, each with its target
abbrev pub column_from : ℕ → ℕ → List Lr1State → List (ℕ × ℕ)
column_from nonterminal first [] = []
column_from nonterminal first (s ∷ ss) =
    with_goto first (get nat_cmp s.gotos nonterminal) (column_from nonterminal (first + 1) ss)

-- one state as a range
abbrev pub one_state_range : ℕ → StateRange
one_state_range s = record { first = s; last = s }

-- ranges with a state that comes before all of theirs
abbrev pub grow : ℕ → List StateRange → List StateRange
grow s [] = one_state_range s ∷ []
grow s (r ∷ rs) =
    if r.first == s + 1 then record { first = s; last = r.last } ∷ rs else one_state_range s ∷ r ∷ rs

-- arms, in ascending order of targets, with a state that comes before all of theirs
abbrev pub with_state : ℕ → ℕ → List GotoArm → List GotoArm
with_state s t [] = record { target = t; ranges = one_state_range s ∷ [] } ∷ []
with_state s t (arm ∷ arms) =
    if nat_lt arm.target t then arm ∷ with_state s t arms
    else (if arm.target == t then record { target = t; ranges = grow s arm.ranges } ∷ arms
    else record { target = t; ranges = one_state_range s ∷ [] } ∷ arm ∷ arms)

-- one arm per target, in ascending order, with the states that go there in as few ranges as can be
abbrev pub arms_of : List (ℕ × ℕ) → List GotoArm
arms_of [] = []
arms_of (e ∷ es) = with_state e.0 e.1 (arms_of es)

-- a state is in a range
abbrev pub is_in : ℕ → StateRange → Bool
is_in s r = nat_le r.first s && nat_le s r.last

-- a state is in a range of an arm
abbrev pub has_state : ℕ → GotoArm → Bool
has_state s arm = list_any (is_in s) arm.ranges

-- the target of the first arm that has a state, else another
abbrev pub target_in : List GotoArm → ℕ → ℕ → ℕ
target_in [] other s = other
target_in (arm ∷ arms) other s = if has_state s arm then arm.target else target_in arms other s

-- how many ranges each arm has
abbrev pub range_counts : List GotoArm → List ℕ
range_counts arms = map (λ arm. length arm.ranges) arms

-- the place of the first of the greatest counts
pub record IsCatchAll (counts : List ℕ) (place : ℕ) : Type 0 where
  pub within : place < length counts
  pub most : (k : ℕ) → k < length counts → slice_index counts k ≤ slice_index counts place
  pub first : (k : ℕ) → k < place → slice_index counts k < slice_index counts place
