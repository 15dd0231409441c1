-- What tells productions from one another.
use Rattle.std.specs.Prelude.{ℕ, ◌==◌, Bool, ◌&&◌, List}
use Rattle.std.specs.Cmp.Lexicographic.{pointwise}
use denote.Ref.{Bor}
use Rattle.lp_repr.specs.Names.{same_nonterminal}
use Rattle.lp_repr.specs.declared.repr.NonterminalString.{NonterminalString}
use Rattle.lp_repr.specs.declared.repr.Production.{Production}
use Rattle.lp_repr.specs.declared.repr.Symbol.{Symbol}
use Rattle.lp_valid.specs.SymbolRules.{same_symbol}

-- a production's nonterminal, symbols and action
abbrev pub production_key : Production → NonterminalString × List Symbol × ℕ
production_key p = (p.nonterminal, p.symbols, p.action)

-- the same, of references to them
abbrev pub key_of : Bor NonterminalString × Bor (List Symbol) × ℕ → NonterminalString × List Symbol × ℕ
key_of k = (k.0.now, k.1.now, k.2)

-- they are equal
abbrev pub same_key : NonterminalString × List Symbol × ℕ → NonterminalString × List Symbol × ℕ → Bool
same_key j k = (same_nonterminal j.0 k.0 && pointwise same_symbol j.1 k.1) && (j.2 == k.2)
