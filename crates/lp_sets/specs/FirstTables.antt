-- The empty words and first terminals of nonterminals as sets, and what these say of a word.
use Rattle.std.specs.Prelude.{◌≡◌, ◌↔◌, ℕ, ◌^◌, Bool, true, false, ◌&&◌, if◌then◌else◌, List, [], ◌∷◌, Some, slice_get, slice_index, bit_or}
use Rattle.lp_repr.specs.declared.numbering.SymbolNumber.{SymbolNumber}
use Rattle.lp_repr.specs.declared.numbering.SymbolNumber.TheVariants.{Terminal, Nonterminal}
use Rattle.lp_repr.specs.declared.numbering.Rule.{Rule}
use Rattle.lp_sets.specs.Members.{Has, has}
use Rattle.lp_sets.specs.FirstSets.{DerivesEmpty, BeginsWith}

-- all symbols are nonterminals of the set
abbrev pub vanishes : ℕ → List SymbolNumber → Bool
vanishes empty [] = true
vanishes empty (Terminal t ∷ xs) = false
vanishes empty (Nonterminal n ∷ xs) = has empty n && vanishes empty xs

-- the terminals that a word begins with, as far as the tables know
abbrev pub first_terminals : ℕ → List ℕ → List SymbolNumber → ℕ
first_terminals empty sets [] = 0
first_terminals empty sets (Terminal t ∷ xs) = 2 ^ t
first_terminals empty sets (Nonterminal n ∷ xs) =
    bit_or (slice_index sets n) (if has empty n then first_terminals empty sets xs else 0)

-- what the tables know is so
abbrev pub IsSoundEmpty : List Rule → ℕ → Type 0
IsSoundEmpty rules empty = (n : ℕ) → Has empty n → DerivesEmpty rules (Nonterminal n ∷ [])

abbrev pub AreSoundFirsts : List Rule → List ℕ → Type 0
AreSoundFirsts rules sets = (n t : ℕ) → Has (slice_index sets n) t → BeginsWith rules (Nonterminal n ∷ []) t

-- no production adds to them
abbrev pub IsClosedEmpty : List Rule → ℕ → Type 0
IsClosedEmpty rules empty = (p : ℕ) (r : Rule) → slice_get rules p ≡ Some r → vanishes empty r.right ≡ true → Has empty r.left

abbrev pub AreClosedFirsts : List Rule → ℕ → List ℕ → Type 0
AreClosedFirsts rules empty sets = (p t : ℕ) (r : Rule) → slice_get rules p ≡ Some r → Has (first_terminals empty sets r.right) t → Has (slice_index sets r.left) t

-- they know all
pub record AreFirsts (rules : List Rule) (empty : ℕ) (sets : List ℕ) : Type 0 where
  pub derives : (xs : List SymbolNumber) → (vanishes empty xs ≡ true) ↔ DerivesEmpty rules xs
  pub begins : (xs : List SymbolNumber) (t : ℕ) → Has (first_terminals empty sets xs) t ↔ BeginsWith rules xs t
