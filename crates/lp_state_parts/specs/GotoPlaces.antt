-- Where a target stands among arms.
use Rattle.std.specs.Prelude.{ℕ, ◌≡◌, ◌<◌, ◌≤◌, ◌++◌, List, IfSome, length, slice_get, take, drop}
use Rattle.lp_state_parts.specs.declared.gotos.GotoArm.{GotoArm}
use Rattle.lp_state_parts.specs.Gotos.{with_state}

-- a state is added at a place or after it
abbrev pub AddsFrom : List GotoArm → ℕ → ℕ → Type 0
AddsFrom arms t i = (s : ℕ) → with_state s t arms ≡ take i arms ++ with_state s t (drop i arms)

-- the arm at a place is that of a target
pub record IsPlaceOf (arms : List GotoArm) (t i : ℕ) : Type 0 where
  pub within : i < length arms
  pub adds : AddsFrom arms t i
  pub there : IfSome (slice_get arms i) (λ arm. arm.target ≡ t)

-- an arm of a target is to be put in at a place
pub record IsPlaceFor (arms : List GotoArm) (t i : ℕ) : Type 0 where
  pub within : i ≤ length arms
  pub adds : AddsFrom arms t i
  pub greater : IfSome (slice_get arms i) (λ arm. t < arm.target)
