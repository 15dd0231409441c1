-- Words that derive the empty word, and the terminals that words begin with (Aho, Lam, Sethi and Ullman, chapter 4). Words are those of the symbols of productions.
use Rattle.std.specs.Prelude.{◌≡◌, ℕ, List, [], ◌∷◌, Some, slice_get}
use Rattle.lp_repr.specs.declared.numbering.SymbolNumber.{SymbolNumber}
use Rattle.lp_repr.specs.declared.numbering.SymbolNumber.TheVariants.{Terminal, Nonterminal}
use Rattle.lp_repr.specs.declared.numbering.Rule.{Rule}

-- the word derives the empty word
pub data DerivesEmpty (rules : List Rule) : List SymbolNumber → Type 0 where
  nothing : DerivesEmpty rules []
  vanishing : (n p : ℕ) (r : Rule) (rest : List SymbolNumber) → slice_get rules p ≡ Some r → r.left ≡ n → DerivesEmpty rules r.right → DerivesEmpty rules rest → DerivesEmpty rules (Nonterminal n ∷ rest)

-- the word derives a word that begins with the terminal
pub data BeginsWith (rules : List Rule) : List SymbolNumber → ℕ → Type 0 where
  here : (t : ℕ) (rest : List SymbolNumber) → BeginsWith rules (Terminal t ∷ rest) t
  inside : (n p t : ℕ) (r : Rule) (rest : List SymbolNumber) → slice_get rules p ≡ Some r → r.left ≡ n → BeginsWith rules r.right t → BeginsWith rules (Nonterminal n ∷ rest) t
  behind : (n t : ℕ) (rest : List SymbolNumber) → DerivesEmpty rules (Nonterminal n ∷ []) → BeginsWith rules rest t → BeginsWith rules (Nonterminal n ∷ rest) t
