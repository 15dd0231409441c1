-- Paths in the order of a breadth-first walk, and the first path to each set of items. The last symbol of a path stands first.
use Rattle.std.specs.Prelude.{◌≡◌, ◌↔◌, ◌⊎◌, ℕ, ◌<◌, List, [], ◌∷◌, AllPairs, Contains}
use Rattle.lp_repr.specs.declared.numbering.SymbolNumber.{SymbolNumber}
use Rattle.lp_repr.specs.declared.numbering.SymbolNumber.TheVariants.{Terminal, Nonterminal}
use Rattle.lp_repr.specs.declared.numbering.Rule.{Rule}
use Rattle.lp_repr.specs.declared.lr1.Token.{Token}
use Rattle.lp_states.specs.ItemSets.{IsCore, IsLookahead}

-- the order of symbols: terminals by number, then nonterminals by number
abbrev pub ComesBefore : SymbolNumber → SymbolNumber → Type 0
ComesBefore (Terminal m) (Terminal n) = m < n
ComesBefore (Terminal m) (Nonterminal n) = Unit {0}
ComesBefore (Nonterminal m) (Terminal n) = ⊥
ComesBefore (Nonterminal m) (Nonterminal n) = m < n

-- the order of paths: the shorter first, and those of one length by their first symbol that differs
abbrev pub IsEarlier : List SymbolNumber → List SymbolNumber → Type 0
IsEarlier [] [] = ⊥
IsEarlier [] (y ∷ v) = Unit {0}
IsEarlier (x ∷ u) [] = ⊥
IsEarlier (x ∷ u) (y ∷ v) = IsEarlier u v ⊎ ((u ≡ v) × ComesBefore x y)

-- some item stands after the path
abbrev pub IsViable : List Rule → ℕ → List SymbolNumber → Type 0
IsViable rules start path = (p : ℕ) × (d : ℕ) × IsCore rules start path p d

-- two paths lead to the same items with the same lookaheads
pub record LeadAlike (rules : List Rule) (start : ℕ) (u v : List SymbolNumber) : Type 0 where
  pub cores : (p d : ℕ) → IsCore rules start u p d ↔ IsCore rules start v p d
  pub lookaheads : (p d : ℕ) (t : Token) → IsLookahead rules start u p d t ↔ IsLookahead rules start v p d t

-- no earlier path leads to the same items
pub record IsFirstPath (rules : List Rule) (start : ℕ) (u : List SymbolNumber) : Type 0 where
  pub viable : IsViable rules start u
  pub first : (v : List SymbolNumber) → IsEarlier v u → LeadAlike rules start v u → ⊥

-- the first paths in order, up to some of them
pub record AreFirstPaths (rules : List Rule) (start : ℕ) (paths : List (List SymbolNumber)) : Type 0 where
  pub ordered : AllPairs IsEarlier paths
  pub first : (u : List SymbolNumber) → Contains paths u → IsFirstPath rules start u
  pub no_other : (u v : List SymbolNumber) → IsFirstPath rules start u → Contains paths v → IsEarlier u v → Contains paths u
