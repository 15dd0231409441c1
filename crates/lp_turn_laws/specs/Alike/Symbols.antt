-- A definition's symbols, and the machine's values at the same places of a path.
use Rattle.std.specs.Prelude.{◌≡◌, List, map}
use Rattle.lp_repr.specs.declared.values.Loc.{Loc}
use Rattle.lp_repr.specs.declared.numbering.SymbolNumber.{SymbolNumber}
use Rattle.lp_driver.specs.Values.{Spanned, Value}

-- at one place: S is the definition's own type of symbols, and Is tells which of them stand for which value
pub record Place {S : Type 0} (Is : SymbolNumber → S → Value → Type 0) : Type 0 where
  pub from : Loc
  pub symbol : SymbolNumber
  pub mine : S
  pub value : Value
  pub is : Is symbol mine value
  pub to : Loc

abbrev pub symbol_at : {S : Type 0} {Is : SymbolNumber → S → Value → Type 0} → Place Is → SymbolNumber
symbol_at p = p.symbol

abbrev pub mine_at : {S : Type 0} {Is : SymbolNumber → S → Value → Type 0} → Place Is → Spanned S
mine_at p = (p.from, p.mine, p.to)

abbrev pub value_at : {S : Type 0} {Is : SymbolNumber → S → Value → Type 0} → Place Is → Spanned Value
value_at p = (p.from, p.value, p.to)

-- at each place of a path
pub record AreAlike {S : Type 0} (Is : SymbolNumber → S → Value → Type 0) (xs : List SymbolNumber) (mine : List (Spanned S)) (triples : List (Spanned Value)) : Type 0 where
  pub places : List (Place Is)
  pub symbols : xs ≡ map symbol_at places
  pub own : mine ≡ map mine_at places
  pub values : triples ≡ map value_at places
