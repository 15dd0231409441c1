-- What sources and sinks tell, and their counts of faults.
use Rattle.std.specs.Prelude.{◌≡◌, ℕ, ◌+◌, ◌<◌, ◌≤◌, List, ◌++◌, length, take, Option, Some, None, min}
use Rattle.std.specs.Option.{option_map}

-- the greatest count, at which a count stays
abbrev pub greatest : ℕ
greatest = 18446744073709551615

-- one more, up to the greatest
abbrev pub counted : ℕ → ℕ
counted n = min (n + 1) greatest

-- the count rose, or stands at its end
abbrev pub Rose : ℕ → ℕ → Type 0
Rose old new = counted old ≤ new

-- what a sink tells: the bytes that it holds, the number of bytes that it has taken, each where it
-- tells it, and its count of faults
pub record Told : Type 0 where
  pub held : Option (List ℕ)
  pub taken : Option ℕ
  pub faults : ℕ

-- what was held, with these bytes behind
abbrev pub appended : Option (List ℕ) → List ℕ → Option (List ℕ)
appended held bytes = option_map (λ bs. bs ++ bytes) held

-- the number rose by n, if it is told afterwards
abbrev pub RisesBy : ℕ → Option ℕ → Option ℕ → Type 0
RisesBy n old None = Unit {0}
RisesBy n None (Some m) = ⊥
RisesBy n (Some k) (Some m) = m ≡ k + n

-- a sink took these bytes, and its count did not fall
pub record Took (old new : Told) (bytes : List ℕ) : Type 0 where
  pub held : new.held ≡ appended old.held bytes
  pub taken : RisesBy (length bytes) old.taken new.taken
  pub faults : old.faults ≤ new.faults

-- a sink took nothing, and its count rose
pub record Refused (old new : Told) : Type 0 where
  pub held : new.held ≡ old.held
  pub taken : new.taken ≡ old.taken
  pub faults : old.faults ≤ new.faults
  pub rose : Rose old.faults new.faults

-- what was left, with these bytes in front
abbrev pub preceded : List ℕ → Option (List ℕ) → Option (List ℕ)
preceded bytes left = option_map (λ bs. bytes ++ bs) left

-- a sink took some of these bytes, and not all, and its count rose
pub record Broke (old new : Told) (bytes : List ℕ) : Type 0 where
  pub count : ℕ
  pub short : count < length bytes
  pub took : Took old new (take count bytes)
  pub rose : Rose old.faults new.faults
