-- What a valid grammar says of productions and actions: they name nothing but what is declared, and no production stands twice or under another nonterminal than its own.
use Rattle.std.specs.Prelude.{ℕ, ◌==◌, Bool, true, false, ◌&&◌, List, length, map, nat_lt}
use Rattle.std.specs.Cmp.Lexicographic.{pointwise}
use Rattle.std.specs.List.{list_all, list_any, flat_map}
use Rattle.lp_repr.specs.Names.{same_nonterminal, same_terminal}
use Rattle.lp_repr.specs.Numbering.{productions_of, terminals_of}
use Rattle.lp_repr.specs.declared.repr.ActionFnDefn.{ActionFnDefn}
use Rattle.lp_repr.specs.declared.repr.ActionFnDefnKind.{ActionFnDefnKind}
use Rattle.lp_repr.specs.declared.repr.ActionFnDefnKind.TheVariants as kind
use Rattle.lp_repr.specs.declared.repr.Grammar.{Grammar}
use Rattle.lp_repr.specs.declared.repr.InlinedSymbol.{InlinedSymbol}
use Rattle.lp_repr.specs.declared.repr.InlinedSymbol.TheVariants as part
use Rattle.lp_repr.specs.declared.repr.NonterminalString.{NonterminalString}
use Rattle.lp_repr.specs.declared.repr.Production.{Production}
use Rattle.lp_repr.specs.declared.repr.Symbol.{Symbol}
use Rattle.lp_repr.specs.declared.repr.Symbol.TheVariants.{Nonterminal, Terminal}
use Rattle.lp_repr.specs.declared.repr.TerminalString.{TerminalString}
use Rattle.lp_valid.specs.Places.{EachPasses, IsNewBy, Both}
use Rattle.lp_valid.specs.StartRules.{is_declared}

-- the action is one of the grammar's
abbrev pub has_action : Grammar → ℕ → Bool
has_action g action = nat_lt action (length g.action_fn_defns)

-- the terminal is one of the grammar's
abbrev pub has_terminal : Grammar → TerminalString → Bool
has_terminal g t = list_any (λ s. same_terminal s t) (terminals_of g)

-- over any test of terminals: a symbol is declared
abbrev pub knows_by : Grammar → (TerminalString → Bool) → Symbol → Bool
knows_by g terminal (Nonterminal n) = is_declared g n
knows_by g terminal (Terminal t) = terminal t

-- over any test of terminals: a production stands under its own nonterminal, and its action and symbols are declared
abbrev pub production_is_known_by : Grammar → (TerminalString → Bool) → NonterminalString × Production → Bool
production_is_known_by g terminal e = same_nonterminal (e.1).nonterminal e.0 && (has_action g (e.1).action && list_all (knows_by g terminal) (e.1).symbols)

-- the same of a symbol of an inline: the action of a part and its symbols
abbrev pub part_is_known_by : Grammar → (TerminalString → Bool) → InlinedSymbol → Bool
part_is_known_by g terminal (part.Original symbol) = knows_by g terminal symbol
part_is_known_by g terminal (part.Inlined action symbols) = has_action g action && list_all (knows_by g terminal) symbols

-- and of an action: the outer action of an inline and its symbols
abbrev pub kind_is_known_by : Grammar → (TerminalString → Bool) → ActionFnDefnKind → Bool
kind_is_known_by g terminal (kind.User patterns types code) = true
kind_is_known_by g terminal (kind.Lookaround which) = true
kind_is_known_by g terminal (kind.Inline outer parts) = has_action g outer && list_all (part_is_known_by g terminal) parts

-- the productions by number, each with the nonterminal under which it stands
abbrev pub placed_of : Grammar → List (NonterminalString × Production)
placed_of g = flat_map (λ e. map (λ p. (e.0, p)) (e.1).productions) g.nonterminals.entries

-- two symbols are of one kind and have the same name
abbrev pub same_symbol : Symbol → Symbol → Bool
same_symbol (Nonterminal m) (Nonterminal n) = same_nonterminal m n
same_symbol (Nonterminal m) (Terminal t) = false
same_symbol (Terminal s) (Nonterminal n) = false
same_symbol (Terminal s) (Terminal t) = same_terminal s t

-- two productions are equal: in their nonterminal, their symbols and their action
abbrev pub same_production : Production → Production → Bool
same_production p q = (same_nonterminal p.nonterminal q.nonterminal && pointwise same_symbol p.symbols q.symbols) && (p.action == q.action)

-- a production stands under its own nonterminal, what it names is declared, and no production before it is the same
abbrev pub ProductionIsKnown : Grammar → ℕ → Type 0
ProductionIsKnown g = Both (EachPasses (production_is_known_by g (has_terminal g)) (placed_of g)) (IsNewBy same_production (productions_of g))

-- what an action names is declared
abbrev pub action_is_known : Grammar → ActionFnDefn → Bool
action_is_known g a = kind_is_known_by g (has_terminal g) a.kind
