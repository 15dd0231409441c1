-- How items are shown: their bytes.
use Rattle.std.specs.Prelude.{ℕ, List, [], ◌++◌, take, drop, Option, None, Some, codes, slice_get}
use Rattle.std.specs.List.{flat_map, join_by}
use Rattle.lp_repr.specs.Shown.{terminal_text, symbol_text}
use Rattle.lp_repr.specs.declared.lr1.Token.{Token}
use Rattle.lp_repr.specs.declared.lr1.Token.TheVariants.{Terminal, Eof}
use Rattle.lp_repr.specs.declared.lr1.Item.{Item}
use Rattle.lp_repr.specs.declared.repr.Production.{Production}
use Rattle.lp_repr.specs.declared.repr.Symbol.{Symbol}
use Rattle.lp_repr.specs.declared.repr.TerminalSet.{TerminalSet}
use Rattle.lp_repr.specs.declared.repr.TerminalString.{TerminalString}

-- a terminal, where there is one
abbrev pub some_terminal_text : Option TerminalString → List ℕ
some_terminal_text None = []
some_terminal_text (Some terminal) = terminal_text terminal

-- a token by its name
abbrev pub named_token_text : TerminalSet → Token → List ℕ
named_token_text terminals Eof = codes "EOF"
named_token_text terminals (Terminal number) = some_terminal_text (slice_get terminals.all number)

-- each symbol after a blank
abbrev pub symbols_text : List Symbol → List ℕ
symbols_text symbols = flat_map (λ s. codes " " ++ symbol_text s) symbols

-- the symbols, with a dot after the first `index` of them
abbrev pub dotted_text : ℕ → List Symbol → List ℕ
dotted_text index symbols = symbols_text (take index symbols) ++ (codes " (*)" ++ symbols_text (drop index symbols))

-- an item, over its production
abbrev pub item_text : TerminalSet → Production → Item → List ℕ
item_text terminals p item = p.nonterminal.0 ++ (codes " =" ++ (dotted_text item.index p.symbols ++ (codes " [" ++ (join_by (named_token_text terminals) (codes ", ") item.lookahead ++ codes "]"))))
