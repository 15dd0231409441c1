-- The numbers of productions, nonterminals and terminals.
use Rattle.std.specs.Prelude.{ℕ, ◌+◌, List, [], ◌∷◌, ◌++◌, map, length, Option, unwrap_or}
use Rattle.std.specs.Option.{option_map}
use Rattle.std.specs.List.{position_from, flat_map}
use Rattle.std.specs.BTreeMap.{keys, values}
use Rattle.lp_repr.specs.Names.{same_nonterminal, same_terminal}
use Rattle.lp_repr.specs.declared.repr.Grammar.{Grammar}
use Rattle.lp_repr.specs.declared.repr.Production.{Production}
use Rattle.lp_repr.specs.declared.repr.NonterminalString.{NonterminalString}
use Rattle.lp_repr.specs.declared.repr.NonterminalData.{NonterminalData}
use Rattle.lp_repr.specs.declared.repr.TerminalString.{TerminalString}
use Rattle.lp_repr.specs.declared.repr.Symbol.{Symbol}
use Rattle.lp_repr.specs.declared.repr.Symbol.TheVariants.{Nonterminal, Terminal}
use Rattle.lp_repr.specs.declared.numbering.SymbolNumber.{SymbolNumber}
use Rattle.lp_repr.specs.declared.numbering.SymbolNumber.TheVariants as by_number
use Rattle.lp_repr.specs.declared.numbering.Rule.{Rule}

-- the nonterminals in key order, by number
abbrev pub nonterminals_of : Grammar → List NonterminalString
nonterminals_of g = keys g.nonterminals

-- the terminals by number
abbrev pub terminals_of : Grammar → List TerminalString
terminals_of g = g.terminals.all

-- the productions by number: through the nonterminals in key order
abbrev pub productions_of : Grammar → List Production
productions_of g = flat_map (λ d. d.productions) (values g.nonterminals)

-- the number of a nonterminal, if it is declared
abbrev pub nonterminal_number : Grammar → NonterminalString → Option ℕ
nonterminal_number g name = position_from (same_nonterminal name) 0 (nonterminals_of g)

-- the number of a terminal, if it is declared: the first where it stands twice
abbrev pub terminal_number : Grammar → TerminalString → Option ℕ
terminal_number g terminal = position_from (same_terminal terminal) 0 (terminals_of g)

-- the number of a symbol, if it is declared
abbrev pub symbol_number : Grammar → Symbol → Option SymbolNumber
symbol_number g (Nonterminal name) = option_map by_number.Nonterminal (nonterminal_number g name)
symbol_number g (Terminal terminal) = option_map by_number.Terminal (terminal_number g terminal)

-- the same, and the count for a symbol that is not declared
abbrev pub number_or_count : Grammar → Symbol → SymbolNumber
number_or_count g (Nonterminal name) = by_number.Nonterminal (unwrap_or (nonterminal_number g name) (length (nonterminals_of g)))
number_or_count g (Terminal terminal) = by_number.Terminal (unwrap_or (terminal_number g terminal) (length (terminals_of g)))

-- a production of the nonterminal of this number, by numbers
abbrev pub rule_of : Grammar → ℕ → Production → Rule
rule_of g left p = record { left = left; right = map (number_or_count g) p.symbols }

-- the productions of some nonterminals, whose numbers begin with k
abbrev pub rules_from : Grammar → ℕ → List NonterminalData → List Rule
rules_from g k [] = []
rules_from g k (d ∷ ds) = map (rule_of g k) d.productions ++ rules_from g (k + 1) ds

-- the productions by number, each by the numbers of its symbols
abbrev pub rules_of : Grammar → List Rule
rules_of g = rules_from g 0 (values g.nonterminals)

-- the number of the first production of each nonterminal, and at last the count
abbrev pub firsts_from : ℕ → List NonterminalData → List ℕ
firsts_from n [] = n ∷ []
firsts_from n (d ∷ ds) = n ∷ firsts_from (n + length d.productions) ds
