-- A breadth-first walk along paths: what was numbered, what its symbols lead to, and the edges that are left.
use Rattle.std.specs.Prelude.{◌≡◌, ◌⊎◌, ℕ, ◌<◌, List, [], ◌∷◌, Option, Some, slice_get, AllPairs, Contains}
use Rattle.lp_repr.specs.declared.numbering.SymbolNumber.{SymbolNumber}
use Rattle.lp_repr.specs.declared.numbering.Rule.{Rule}
use Rattle.lp_states.specs.Paths.{ComesBefore, IsEarlier, IsViable, LeadAlike}

-- an edge leads from a number over a symbol; edges go by both
abbrev pub EdgeBefore : ℕ × SymbolNumber → ℕ × SymbolNumber → Type 0
EdgeBefore e f = (e.0 < f.0) ⊎ ((e.0 ≡ f.0) × ComesBefore e.1 f.1)

-- the number is that of the first path to what the path leads to
abbrev pub IsNumbered : List Rule → ℕ → List (List SymbolNumber) → List SymbolNumber → ℕ → Type 0
IsNumbered rules start paths v j = (w : List SymbolNumber) × (slice_get paths j ≡ Some w) × LeadAlike rules start w v

-- the same, and that path is not behind this one
abbrev pub IsReached : List Rule → ℕ → List (List SymbolNumber) → List SymbolNumber → ℕ → Type 0
IsReached rules start paths v j =
    (w : List SymbolNumber) × (slice_get paths j ≡ Some w) × LeadAlike rules start w v × (IsEarlier w v ⊎ (w ≡ v))

-- the edge leads somewhere
abbrev pub IsEdge : List Rule → ℕ → List (List SymbolNumber) → ℕ × SymbolNumber → Type 0
IsEdge rules start paths e = (u : List SymbolNumber) × (slice_get paths e.0 ≡ Some u) × IsViable rules start (e.1 ∷ u)

-- an edge noted: its target is the number, and the others stay
abbrev pub IsNoted : (ℕ → SymbolNumber → Option ℕ) → (ℕ → SymbolNumber → Option ℕ) → ℕ → SymbolNumber → ℕ → Type 0
IsNoted old new i x j = (new i x ≡ Some j) × ((k : ℕ) (y : SymbolNumber) → ((k ≡ i) × (y ≡ x)) ⊎ (new k y ≡ old k y))

pub record IsWalk (rules : List Rule) (start : ℕ) (paths : List (List SymbolNumber)) (targets : ℕ → SymbolNumber → Option ℕ) (left : List (ℕ × SymbolNumber)) : Type 0 where
  pub begins : slice_get paths 0 ≡ Some []
  pub viable : (i : ℕ) (u : List SymbolNumber) → slice_get paths i ≡ Some u → IsViable rules start u
  pub ordered : (i j : ℕ) (u v : List SymbolNumber) → i < j → slice_get paths i ≡ Some u → slice_get paths j ≡ Some v → IsEarlier u v
  pub apart : (i j : ℕ) (u v : List SymbolNumber) → slice_get paths i ≡ Some u → slice_get paths j ≡ Some v → LeadAlike rules start u v → i ≡ j
  -- the edges that are left lead on in order, behind all paths
  pub edges : (e : ℕ × SymbolNumber) → Contains left e → IsEdge rules start paths e
  pub edges_ordered : AllPairs EdgeBefore left
  pub behind : (e : ℕ × SymbolNumber) (u : List SymbolNumber) (i : ℕ) (w : List SymbolNumber) → Contains left e → slice_get paths e.0 ≡ Some u → slice_get paths i ≡ Some w → IsEarlier w (e.1 ∷ u)
  -- all others were followed
  pub followed : (i : ℕ) (x : SymbolNumber) (u : List SymbolNumber) → slice_get paths i ≡ Some u → IsViable rules start (x ∷ u) → Contains left (i, x) ⊎ ((j : ℕ) × (targets i x ≡ Some j) × IsReached rules start paths (x ∷ u) j)
  pub targets_lead : (i : ℕ) (x : SymbolNumber) (j : ℕ) → targets i x ≡ Some j → (u : List SymbolNumber) × (slice_get paths i ≡ Some u) × IsViable rules start (x ∷ u) × IsNumbered rules start paths (x ∷ u) j
