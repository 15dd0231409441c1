-- Symbols by name.
use Rattle.std.specs.Prelude.{◌≡◌, ℕ, List, reverse, Option, Some, IsSome, Contains}
use Rattle.std.specs.List.{AllZip, filter_map}
use Rattle.std.specs.Option.{option_map}
use Rattle.std.specs.Borrow.{Bor}
use Rattle.std.specs.BTreeMap as tree
use Rattle.lp_repr.specs.Closure.{next_symbol}
use Rattle.lp_repr.specs.Numbering.{number_or_count}
use Rattle.lp_repr.specs.declared.repr.Grammar.{Grammar}
use Rattle.lp_repr.specs.declared.repr.Symbol.{Symbol}
use Rattle.lp_repr.specs.declared.numbering.SymbolNumber.{SymbolNumber}
use Rattle.lp_repr.specs.declared.numbering.Rule.{Rule}
use Rattle.lp_states.specs.declared.names.Names.{Names}
use Rattle.lp_states.specs.Actions.{symbol_cmp}

-- the symbol of a number
abbrev pub name_at : Names → SymbolNumber → Option Symbol
name_at names x = option_map (λ (s : Bor Symbol). s.now) (tree.get symbol_cmp names.symbols x)

-- the numbers are those of the symbols
abbrev pub NamesRightly : Grammar → Names → Type 0
NamesRightly g names = (x : SymbolNumber) (s : Symbol) → name_at names x ≡ Some s → number_or_count g s ≡ x

-- each symbol of the productions has a name
abbrev pub NamesAll : List Rule → Names → Type 0
NamesAll rules names = (p d : ℕ) (x : SymbolNumber) → next_symbol rules p d ≡ Some x → IsSome (name_at names x)

-- symbols added to the names
pub record NamesMore (g : Grammar) (old new : Names) (symbols : List Symbol) : Type 0 where
  pub rightly : NamesRightly g old → NamesRightly g new
  pub kept : (x : SymbolNumber) → IsSome (name_at old x) → IsSome (name_at new x)
  pub added : (s : Symbol) → Contains symbols s → IsSome (name_at new (number_or_count g s))

-- a path by the names, whose last number stands first
abbrev pub IsSpelled : Names → List Symbol → List SymbolNumber → Type 0
IsSpelled names path backwards = path ≡ filter_map (name_at names) (reverse backwards)

abbrev pub AreSpelled : Names → List (List Symbol) → List (List SymbolNumber) → Type 0
AreSpelled names paths all = AllZip (IsSpelled names) paths all
