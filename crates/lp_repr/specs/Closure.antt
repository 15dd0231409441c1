-- Sets of items, as pairs of a production and a dot, and their closures (Knuth 1965; Aho, Lam, Sethi and Ullman, chapter 4).
use Rattle.std.specs.Prelude.{◌≡◌, ℕ, ◌+◌, List, Option, Some, slice_get, option_and_then}
use Rattle.lp_repr.specs.declared.numbering.SymbolNumber.{SymbolNumber}
use Rattle.lp_repr.specs.declared.numbering.SymbolNumber.TheVariants.{Nonterminal}
use Rattle.lp_repr.specs.declared.numbering.Rule.{Rule}
use Rattle.lp_repr.specs.declared.lr1.Item.{Item}

-- the symbol after the dot of an item
abbrev pub next_symbol : List Rule → ℕ → ℕ → Option SymbolNumber
next_symbol rules p d = option_and_then (λ r. slice_get r.right d) (slice_get rules p)

-- the production stands under the nonterminal
abbrev pub HasLeft : List Rule → ℕ → ℕ → Type 0
HasLeft rules p n = (r : Rule) × (slice_get rules p ≡ Some r) × (r.left ≡ n)

-- the closure of some items: the least set that holds them and, with each item whose dot stands before a nonterminal, that nonterminal's productions with the dot first
pub data InClosure (rules : List Rule) (Given : ℕ → ℕ → Type 0) : ℕ → ℕ → Type 0 where
  given : (p d : ℕ) → Given p d → InClosure rules Given p d
  opened : (p d n q : ℕ) → InClosure rules Given p d → next_symbol rules p d ≡ Some (Nonterminal n) → HasLeft rules q n → InClosure rules Given q 0

-- a list of items has the production with this dot
abbrev pub HasItem : List Item → ℕ → ℕ → Type 0
HasItem items p d = (place : ℕ) × (item : Item) × (slice_get items place ≡ Some item) × (item.production ≡ p) × (item.index ≡ d)

-- the items with the dot moved over a symbol
abbrev pub Advanced : List Rule → List Item → SymbolNumber → ℕ → ℕ → Type 0
Advanced rules items x p d = (e : ℕ) × (d ≡ e + 1) × HasItem items p e × (next_symbol rules p e ≡ Some x)
