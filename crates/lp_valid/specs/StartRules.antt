-- What a valid grammar says of its starts.
use Rattle.std.specs.Prelude.{◌==◌, Bool, false, not, ◌&&◌, List, [], ◌∷◌, length, is_some}
use Rattle.std.specs.List.{list_any}
use Rattle.std.specs.Map.{lookup}
use Rattle.std.specs.Option.{option_map_or}
use Rattle.lp_repr.specs.Names.{same_nonterminal}
use Rattle.lp_repr.specs.Numbering.{productions_of}
use Rattle.lp_repr.specs.declared.repr.Grammar.{Grammar}
use Rattle.lp_repr.specs.declared.repr.NonterminalString.{NonterminalString}
use Rattle.lp_repr.specs.declared.repr.Production.{Production}
use Rattle.lp_repr.specs.declared.repr.Symbol.{Symbol}
use Rattle.lp_repr.specs.declared.repr.Symbol.TheVariants.{Nonterminal, Terminal}

-- the nonterminal is declared
abbrev pub is_declared : Grammar → NonterminalString → Bool
is_declared g n = is_some (lookup (same_nonterminal n) g.nonterminals.entries)

-- one production, of one symbol
abbrev pub is_single : List Production → Bool
is_single [] = false
is_single (p ∷ []) = length p.symbols == 1
is_single (p ∷ (q ∷ ps)) = false

-- the nonterminal is declared with one production, of one symbol
abbrev pub has_one_symbol : Grammar → NonterminalString → Bool
has_one_symbol g n = option_map_or (λ d. is_single d.productions) (lookup (same_nonterminal n) g.nonterminals.entries) false

-- the symbol is this nonterminal
abbrev pub is_nonterminal : NonterminalString → Symbol → Bool
is_nonterminal n (Nonterminal m) = same_nonterminal m n
is_nonterminal n (Terminal t) = false

-- the nonterminal is one of the symbols
abbrev pub stands_in : NonterminalString → List Symbol → Bool
stands_in n symbols = list_any (is_nonterminal n) symbols

-- the nonterminal stands on the right side of a production
abbrev pub stands_right : Grammar → NonterminalString → Bool
stands_right g n = list_any (λ p. stands_in n p.symbols) (productions_of g)

-- the public name is declared, and its start has one production of one symbol and isn't one that stands on right sides
abbrev pub is_start_unless : Grammar → (NonterminalString → Bool) → NonterminalString × NonterminalString → Bool
is_start_unless g on_right e = is_declared g e.0 && (has_one_symbol g e.1 && not (on_right e.1))

abbrev pub is_start : Grammar → NonterminalString × NonterminalString → Bool
is_start g e = is_start_unless g (stands_right g) e
