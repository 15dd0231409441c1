-- Trials, and the list that they make, by the number of their looks.
use Rattle.std.specs.Prelude.{◌≡◌, ◌⊎◌, ℕ, zero, suc, ◌+◌, Bool, List, [], ◌∷◌, Some, if◌then◌else◌}
use Rattle.lp_driver.specs.Values.{Text}
use Rattle.lp_machine.specs.declared.verdict.Verdict.TheVariants.{Yes, No, GoesOn}
use Rattle.lp_machine.specs.ExpectedList.{verdict}
use Rattle.lp_machine.specs.Tables.{Tables}

-- a name is kept where its trial says yes
abbrev pub with_kept : Bool → Text → List Text → List Text
with_kept b name names = if b then name ∷ names else names

module _ (t : Tables) where
  -- after so many looks that go on, the next one says yes or no
  abbrev pub Tried : ℕ → ℕ → List ℕ → Bool → Type 0
  Tried i zero stack b = verdict t stack (Some i) ≡ (if b then Yes else No)
  Tried i (suc n) stack b = (next : List ℕ) × (verdict t stack (Some i) ≡ GoesOn next) × Tried i n next b

  -- so many looks go on
  abbrev pub Tries : ℕ → ℕ → List ℕ → Type 0
  Tries i zero stack = Unit {0}
  Tries i (suc n) stack = (next : List ℕ) × (verdict t stack (Some i) ≡ GoesOn next) × Tries i n next

  module _ (stack : List ℕ) where
    -- the terminals from a number on, which have these names, are all tried in so many looks, and these names are kept
    abbrev pub Collects : ℕ → List Text → ℕ → List Text → Type 0
    Collects i [] n kept = (n ≡ 0) × (kept ≡ [])
    Collects i (name ∷ names) n kept =
        (k : ℕ) × (b : Bool) × (m : ℕ) × (rest : List Text) × Tried i k stack b × Collects (suc i) names m rest × (n ≡ suc (k + m)) × (kept ≡ with_kept b name rest)

    -- so many looks come to a trial of one of them that goes on
    abbrev pub Lags : ℕ → List Text → ℕ → Type 0
    Lags i [] n = ⊥
    Lags i (name ∷ names) n = Tries i n stack ⊎ ((k : ℕ) × (b : Bool) × (m : ℕ) × Tried i k stack b × Lags (suc i) names m × (n ≡ suc (k + m)))
