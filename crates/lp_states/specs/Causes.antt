-- Why a start has no states.
use Rattle.std.specs.Prelude.{◌≡◌, ℕ, List, [], ◌∷◌, ◌++◌, Some}
use Rattle.std.specs.List.{AllZip}
use Rattle.lp_repr.specs.Numbering.{rules_of}
use Rattle.lp_repr.specs.ValidTables.{start_number}
use Rattle.lp_repr.specs.declared.repr.Grammar.{Grammar}
use Rattle.lp_repr.specs.declared.numbering.SymbolNumber.{SymbolNumber}
use Rattle.lp_states.specs.declared.builder.BuildFault.{BuildFault}
use Rattle.lp_states.specs.declared.builder.BuildFault.TheVariants.{Conflict, TooManyStates, Memory}
use Rattle.lp_states.specs.States.{IsFirstConflict, AreTooMany, Spells}

-- the cause of a refusal; want of memory is free
abbrev pub IsCause : Grammar → ℕ → BuildFault → Type 0
IsCause g start (Conflict path token) =
    (n : ℕ) × (before : List (List SymbolNumber)) × (u : List SymbolNumber) × (start_number g start ≡ Some n) × Spells g path u × IsFirstConflict (rules_of g) n before u token
IsCause g start (TooManyStates paths) =
    (n : ℕ) × (before : List (List SymbolNumber)) × (u : List SymbolNumber) × (start_number g start ≡ Some n) × AllZip (Spells g) paths (before ++ u ∷ []) × AreTooMany (rules_of g) n before u
IsCause g start Memory = Unit {0}
