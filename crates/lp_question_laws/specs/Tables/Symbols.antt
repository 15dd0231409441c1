-- When a value of a running program stands for a symbol of the machine.
use Rattle.std.specs.Prelude.{◌≡◌, ℕ, Some}
use Rattle.lp_repr.specs.declared.numbering.SymbolNumber.{SymbolNumber}
use Rattle.lp_repr.specs.declared.repr.Grammar.{Grammar}
use Rattle.lp_driver.specs.Values.{Value}
use Rattle.lp_core.specs.declared.value.Tag.TheVariants as tag
use Rattle.lp_core.specs.Datum.{Parsed}
use Rattle.lp_core.specs.Reading.{wrapped}
use Rattle.lp_core.specs.Val.{Val, Plain}
use Rattle.lp_maker.specs.Making.{Making, number_in}
use Rattle.lp_table.specs.Pieces.{variant_text}
use Rattle.lp_table.specs.ReductionLines.{variant_at}

-- the variant of a symbol has this number among those that were made
abbrev pub IsVariant : Grammar → Making → SymbolNumber → ℕ → Type 0
IsVariant g m x k = number_in (variant_text (variant_at g (Some x))) m.variants ≡ Some k

-- a value of the program is the variant of a symbol's type, with the machine's value in it
pub record IsSymbol (g : Grammar) (m : Making) (x : SymbolNumber) (v : Val) (value : Value) : Type 0 where
  pub number : ℕ
  pub variant : IsVariant g m x number
  pub holds : v ≡ wrapped (tag.Variant number) (Plain (Parsed value))
