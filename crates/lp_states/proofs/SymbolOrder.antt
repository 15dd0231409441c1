-- The order of symbols, as maps go by it.
use Rattle.std.proofs.Common.{◌≡◌, ap}
use Rattle.std.specs.declared.cmp.Ordering.TheVariants.{Less}
use Rattle.std.specs.Cmp.{IsTotalOrder}
use Rattle.std.proofs.lemmas.Map.Lookups.{CmpEqualImpliesEq, exact_unsigned}
use Rattle.lp_repr.specs.declared.numbering.SymbolNumber.{SymbolNumber}
use Rattle.lp_repr.specs.declared.numbering.SymbolNumber.TheVariants.{Terminal, Nonterminal}
use Rattle.lp_repr.specs.contracts.numbering.SymbolNumberOrd.TheImpl.Laws.{total-law}
use Rattle.lp_states.specs.Actions.{symbol_cmp}
use Rattle.lp_states.specs.Paths.{ComesBefore}
use Rattle.lp_states.proofs.ItemOrder.{nat_less}

pub symbol_exact : CmpEqualImpliesEq symbol_cmp
symbol_exact (Terminal m) (Terminal n) h = ap Terminal (exact_unsigned m n h)
symbol_exact (Terminal m) (Nonterminal n) h = cc
symbol_exact (Nonterminal m) (Terminal n) h = cc
symbol_exact (Nonterminal m) (Nonterminal n) h = ap Nonterminal (exact_unsigned m n h)

pub symbol_less : (x y : SymbolNumber) → symbol_cmp x y ≡ Less → ComesBefore x y
symbol_less (Terminal m) (Terminal n) h = nat_less m n h
symbol_less (Terminal m) (Nonterminal n) h = tt
symbol_less (Nonterminal m) (Terminal n) h = cc
symbol_less (Nonterminal m) (Nonterminal n) h = nat_less m n h

pub symbol_total : IsTotalOrder symbol_cmp
symbol_total = total-law
