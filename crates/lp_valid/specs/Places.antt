-- Rules over things that are counted through in their order: a thing's number is its place.
use Rattle.std.specs.Prelude.{◌≡◌, ℕ, ◌+◌, ◌-◌, ◌<◌, ◌≤◌, min, Bool, false, List, take, Option, None, Some, IsTrue, IfSome, slice_get}
use Rattle.std.specs.List.{list_any}
use Rattle.std.specs.Option.{option_map}
use Rattle.std.specs.Ordering.{is_eq}
use Rattle.std.specs.declared.cmp.Ordering.{Ordering}

-- each of some things passes a test
abbrev pub EachPasses : {X : Type 0} → (X → Bool) → List X → ℕ → Type 0
EachPasses test things place = IfSome (slice_get things place) (λ x. IsTrue (test x))

-- a rule over so many things, and then another over those after them
abbrev pub Then : ℕ → (ℕ → Type 0) → (ℕ → Type 0) → ℕ → Type 0
Then n First Second place = (place < n → First place) × (n ≤ place → Second (place - n))

-- the least place at which a rule fails, or none where it holds at each place
abbrev pub IsFirstFailing : (ℕ → Type 0) → Option ℕ → Type 0
IsFirstFailing Holds None = (place : ℕ) → Holds place
IsFirstFailing Holds (Some place) = (¬ Holds place) × ((lesser : ℕ) → lesser < place → Holds lesser)

-- the place of the first failure of these two, by those of each
abbrev pub then_place : ℕ → Option ℕ → Option ℕ → Option ℕ
then_place n None second = option_map (λ place. n + place) second
then_place n (Some first) second = Some first

-- two rules over the same things
abbrev pub Both : (ℕ → Type 0) → (ℕ → Type 0) → ℕ → Type 0
Both First Second place = First place × Second place

-- the lesser of two places, of those that there are
abbrev pub least : Option ℕ → Option ℕ → Option ℕ
least None second = second
least (Some first) None = Some first
least (Some first) (Some second) = Some (min first second)

-- no thing before it is the same
abbrev pub IsNewBy : {X : Type 0} → (X → X → Bool) → List X → ℕ → Type 0
IsNewBy same things place = IfSome (slice_get things place) (λ x. list_any (λ y. same y x) (take place things) ≡ false)

-- no thing before it compares equal
abbrev pub IsNew : {X : Type 0} → (X → X → Ordering) → List X → ℕ → Type 0
IsNew cmp = IsNewBy (λ y x. is_eq (cmp y x))
