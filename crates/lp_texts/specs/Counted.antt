-- Things that are counted through in their order, up to the first that breaks its rule.
use Rattle.std.specs.Prelude.{◌≡◌, ℕ, ◌+◌, List, ◌∷◌, ◌++◌, length, All, Option, Some, None, Result, Ok, Err}
use Rattle.lp_texts.specs.declared.faults.TextKind.{TextKind}
use Rattle.lp_texts.specs.declared.faults.TextFault.{TextFault}
use Rattle.lp_texts.specs.declared.faults.TextFault.TheVariants.{Bad, Memory}

-- a rule says what is answered of a thing: none where it meets the rule, or its first wrong byte
abbrev pub Meets : {X : Type 0} → (X → Option ℕ → Type 0) → X → Type 0
Meets rule x = rule x None

-- the first thing that breaks the rule stands behind so many, and this is its first wrong byte
pub record FailsFirst {X : Type 0} (rule : X → Option ℕ → Type 0) (things : List X) (number byte : ℕ) : Type 0 where
  pub before : List X
  pub thing : X
  pub behind : List X
  pub split : things ≡ before ++ thing ∷ behind
  pub place : number ≡ length before
  pub meet : All (Meets rule) before
  pub wrong : rule thing (Some byte)

-- things that are counted from a number on: the number after them where each meets the rule, else where the
-- first stands that doesn't
abbrev pub Counts : {X : Type 0} → TextKind → (X → Option ℕ → Type 0) → List X → ℕ → Result ℕ TextFault → Type 0
Counts kind rule things from (Ok number) = All (Meets rule) things × (number ≡ from + length things)
Counts kind rule things from (Err (Bad place byte)) = (place.kind ≡ kind) × (number : ℕ) × (place.number ≡ from + number) × FailsFirst rule things number byte
Counts kind rule things from (Err Memory) = Unit {0}

-- the number after that of a thing that meets its rule, or where it stands and its first wrong byte
abbrev pub IsNext : TextKind → ℕ → Option ℕ → Result ℕ TextFault → Type 0
IsNext kind number None (Ok next) = next ≡ number + 1
IsNext kind number None (Err fault) = fault ≡ Memory
IsNext kind number (Some byte) result = result ≡ Err (Bad (record { kind = kind; number = number }) byte)
