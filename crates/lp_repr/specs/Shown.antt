-- How names, paths and bounds are shown: their bytes.
use Rattle.std.specs.Prelude.{ℕ, List, [], ◌∷◌, ◌++◌, None, Some, codes, decimal, if◌then◌else◌}
use Rattle.std.specs.List.{join_by}
use Rattle.lp_repr.specs.declared.parse_tree.TypeParameter.{TypeParameter}
use Rattle.lp_repr.specs.declared.parse_tree.TypeParameter.TheVariants as parameter
use Rattle.lp_repr.specs.declared.parse_tree.Path.{Path}
use Rattle.lp_repr.specs.Escapes.{escaped_text}
use Rattle.lp_repr.specs.declared.repr.TerminalString.{TerminalString}
use Rattle.lp_repr.specs.declared.repr.TerminalString.TheVariants.{Quoted, Bare, Error}
use Rattle.lp_repr.specs.declared.repr.Symbol.{Symbol}
use Rattle.lp_repr.specs.declared.repr.Symbol.TheVariants.{Nonterminal, Terminal}
use Rattle.lp_repr.specs.declared.repr.Production.{Production}
use Rattle.lp_repr.specs.declared.repr.TokenPattern.{TokenPattern}
use Rattle.lp_repr.specs.declared.parse_tree.Visibility.{Visibility}
use Rattle.lp_repr.specs.declared.parse_tree.Visibility.TheVariants.{Pub, Priv}

-- a lifetime or a type parameter: its name
abbrev pub parameter_text : TypeParameter → List ℕ
parameter_text (parameter.Lifetime name) = name
parameter_text (parameter.Id name) = name

-- a path: its names with `::` between them, and before them where it is absolute
abbrev pub path_text : Path → List ℕ
path_text p = (if p.absolute then codes "::" else []) ++ join_by (λ t. t) (codes "::") p.ids

-- a visibility
abbrev pub visibility_text : Visibility → List ℕ
visibility_text Priv = []
visibility_text (Pub None) = codes "pub "
visibility_text (Pub (Some path)) = codes "pub(" ++ (path_text path ++ codes ") ")

-- a binder, nothing where it names nothing
abbrev pub binder_text : List TypeParameter → List ℕ
binder_text [] = []
binder_text (p ∷ ps) = codes "for<" ++ (join_by parameter_text (codes ", ") (p ∷ ps) ++ codes "> ")

-- a terminal: a quoted one as a literal
abbrev pub terminal_text : TerminalString → List ℕ
terminal_text (Quoted text) = escaped_text text
terminal_text (Bare name) = name
terminal_text Error = codes "error"

-- a symbol
abbrev pub symbol_text : Symbol → List ℕ
symbol_text (Nonterminal name) = name.0
symbol_text (Terminal terminal) = terminal_text terminal

-- a production
abbrev pub production_text : Production → List ℕ
production_text p = p.nonterminal.0 ++ (codes " = " ++ (join_by symbol_text (codes ", ") p.symbols ++ (codes " => ActionFn(" ++ (decimal p.action ++ codes ");"))))

-- a token's pattern, with `_` in the holes
abbrev pub pattern_text : TokenPattern → List ℕ
pattern_text p = join_by (λ t. t) (codes "_") p.pieces
