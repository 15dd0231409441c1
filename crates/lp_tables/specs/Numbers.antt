-- The productions of a grammar by number, and the symbols after their dots.
use Rattle.std.specs.Prelude.{◌≡◌, ◌↔◌, ℕ, ◌+◌, ◌<◌, ◌≤◌, List, Option, Some, None, slice_get, option_and_then}
use Rattle.lp_repr.specs.Closure.{next_symbol, HasLeft}
use Rattle.lp_repr.specs.Numbering.{rules_of}
use Rattle.lp_repr.specs.declared.numbering.Rule.{Rule}
use Rattle.lp_repr.specs.declared.numbering.SymbolNumber.{SymbolNumber}
use Rattle.lp_repr.specs.declared.numbering.SymbolNumber.TheVariants as symbol
use Rattle.lp_repr.specs.declared.repr.Grammar.{Grammar}
use Rattle.lp_tables.specs.declared.rules.Kind.{Kind}
use Rattle.lp_tables.specs.declared.rules.Kind.TheVariants.{Terminals, Nonterminals}
use Rattle.lp_tables.specs.declared.rules.Rules.{Rules}

-- the productions of a nonterminal have the numbers from its own entry up to the next one
abbrev pub IsIndex : List Rule → List ℕ → Type 0
IsIndex rules firsts = (q n : ℕ) → HasLeft rules q n ↔ ((a : ℕ) × (b : ℕ) × (slice_get firsts n ≡ Some a) × (slice_get firsts (n + 1) ≡ Some b) × (a ≤ q) × (q < b))

-- the productions of a grammar, with the index of its nonterminals
pub record AreRulesOf (g : Grammar) (r : Rules) : Type 0 where
  pub all : r.all.items ≡ rules_of g
  pub index : IsIndex r.all.items r.firsts.items

-- the symbol of a kind and a number
abbrev pub symbol_of : Kind → ℕ → SymbolNumber
symbol_of Terminals n = symbol.Terminal n
symbol_of Nonterminals n = symbol.Nonterminal n

-- the number of a symbol of this kind
abbrev pub number_of : Kind → SymbolNumber → Option ℕ
number_of Terminals (symbol.Terminal n) = Some n
number_of Terminals (symbol.Nonterminal n) = None
number_of Nonterminals (symbol.Terminal n) = None
number_of Nonterminals (symbol.Nonterminal n) = Some n

-- the number of the symbol after a dot, if it is of this kind
abbrev pub number_after : List Rule → Kind → ℕ → ℕ → Option ℕ
number_after rules kind p d = option_and_then (number_of kind) (next_symbol rules p d)
