-- The items after a path of symbols (canonical LR(1): Knuth 1965). The last symbol of a path stands first.
use Rattle.std.specs.Prelude.{◌≡◌, ◌≢◌, ◌⊎◌, ℕ, ◌+◌, List, [], ◌∷◌, drop, Some, None, slice_get, unwrap_or}
use Rattle.std.specs.Option.{option_map}
use Rattle.lp_repr.specs.Closure.{next_symbol, HasLeft, InClosure}
use Rattle.lp_repr.specs.declared.numbering.SymbolNumber.{SymbolNumber}
use Rattle.lp_repr.specs.declared.numbering.SymbolNumber.TheVariants as symbol
use Rattle.lp_repr.specs.declared.numbering.Rule.{Rule}
use Rattle.lp_repr.specs.declared.lr1.Token.{Token}
use Rattle.lp_repr.specs.declared.lr1.Token.TheVariants.{Terminal, Eof}
use Rattle.lp_sets.specs.FirstSets.{DerivesEmpty, BeginsWith}

-- what follows the symbol after the dot of an item
abbrev pub word_after : List Rule → ℕ → ℕ → List SymbolNumber
word_after rules p d = unwrap_or (option_map (λ (r : Rule). drop (d + 1) r.right) (slice_get rules p)) []

-- the lookaheads of the closure of some items: the least sets that hold theirs and, with each item whose dot stands before a nonterminal, for that nonterminal's productions the terminals that what follows it begins with and, where this derives the empty word, the item's lookaheads
pub data InLookaheads (rules : List Rule) (Given : ℕ → ℕ → Type 0) (On : ℕ → ℕ → Token → Type 0) : ℕ → ℕ → Token → Type 0 where
  given : (p d : ℕ) (t : Token) → On p d t → InLookaheads rules Given On p d t
  begun : (p d n q t : ℕ) → InClosure rules Given p d → next_symbol rules p d ≡ Some (symbol.Nonterminal n) → HasLeft rules q n → BeginsWith rules (word_after rules p d) t → InLookaheads rules Given On q 0 (Terminal t)
  passed : (p d n q : ℕ) (t : Token) → InLookaheads rules Given On p d t → next_symbol rules p d ≡ Some (symbol.Nonterminal n) → HasLeft rules q n → DerivesEmpty rules (word_after rules p d) → InLookaheads rules Given On q 0 t

-- the productions of the start nonterminal with the dot first
abbrev pub IsBegun : List Rule → ℕ → ℕ → ℕ → Type 0
IsBegun rules start p d = HasLeft rules p start × (d ≡ 0)

-- items with the dot moved over a symbol, and their lookaheads
abbrev pub Moved : List Rule → SymbolNumber → (ℕ → ℕ → Type 0) → ℕ → ℕ → Type 0
Moved rules x Items p d = (e : ℕ) × (d ≡ e + 1) × Items p e × (next_symbol rules p e ≡ Some x)

abbrev pub MovedOn : List Rule → SymbolNumber → (ℕ → ℕ → Token → Type 0) → ℕ → ℕ → Token → Type 0
MovedOn rules x On p d t = (e : ℕ) × (d ≡ e + 1) × On p e t × (next_symbol rules p e ≡ Some x)

-- the items after a path: the closure of the start's productions, moved and closed symbol by symbol
abbrev pub IsCore : List Rule → ℕ → List SymbolNumber → ℕ → ℕ → Type 0
IsCore rules start [] = InClosure rules (IsBegun rules start)
IsCore rules start (x ∷ path) = InClosure rules (Moved rules x (IsCore rules start path))

-- their lookaheads: the end of input for the start's productions, kept by moving, and those of the closure; an item may have none
abbrev pub IsLookahead : List Rule → ℕ → List SymbolNumber → ℕ → ℕ → Token → Type 0
IsLookahead rules start [] = InLookaheads rules (IsBegun rules start) (λ p d t. IsBegun rules start p d × (t ≡ Eof))
IsLookahead rules start (x ∷ path) = InLookaheads rules (Moved rules x (IsCore rules start path)) (MovedOn rules x (IsLookahead rules start path))

-- after the path the terminal is shifted, the production is reduced on the token
abbrev pub Shifts : List Rule → ℕ → List SymbolNumber → ℕ → Type 0
Shifts rules start path n = (p : ℕ) × (d : ℕ) × IsCore rules start path p d × (next_symbol rules p d ≡ Some (symbol.Terminal n))

abbrev pub Reduces : List Rule → ℕ → List SymbolNumber → ℕ → Token → Type 0
Reduces rules start path p t = (d : ℕ) × IsLookahead rules start path p d t × (next_symbol rules p d ≡ None)

-- there are two actions on the token
abbrev pub HasConflict : List Rule → ℕ → List SymbolNumber → Token → Type 0
HasConflict rules start path t =
    ((n : ℕ) × (p : ℕ) × (t ≡ Terminal n) × Shifts rules start path n × Reduces rules start path p t)
    ⊎ ((p : ℕ) × (q : ℕ) × (p ≢ q) × Reduces rules start path p t × Reduces rules start path q t)
