-- Patterns of tokens, as what is printed for them.
use Rattle.std.specs.Prelude.{ℕ, Bool, true, false, List, [], ◌∷◌, ◌++◌, Option, Some, None, zero, suc, codes, map}
use Rattle.lp_repr.specs.Shown.{path_text}
use Rattle.lp_repr.specs.declared.repr.TokenPattern.{TokenPattern}
use Rattle.lp_repr.specs.declared.repr.TypeRepr.{TypeRepr}
use Rattle.lp_repr.specs.TypeTrees.{TypeTree, type_tree}
use Rattle.lp_tok.specs.declared.tok.Tok.TheVariants.{LeftParen, RightParen, LessThan, GreaterThan, Comma, Underscore, DotDot}
use Rattle.lp_types.specs.declared.texts.Kind.TheVariants as kind
use Rattle.lp_types.specs.declared.reader.TheConstants.{MOST_DEPTH}
use Rattle.lp_types.specs.Reading.{Reading, Deep, ◌>>=◌, give, where_next, expected, taken, spread}
use Rattle.lp_types.specs.Names.{path}
use Rattle.lp_types.specs.Types.{type_within}
use Rattle.lp_reading.specs.declared.read_pattern.Part.{Part}
use Rattle.lp_reading.specs.declared.read_pattern.Part.TheVariants.{Printed, Hole}

-- What is printed for a pattern is a list of parts, from left to right: text, or a hole for what is captured.

-- a part, with the tree of the type that a hole captures
abbrev pub part_tree : Part TypeRepr → Part TypeTree
part_tree (Printed text) = Printed text
part_tree (Hole ty) = Hole (type_tree ty)

-- printed text alone
abbrev pub printed : List ℕ → List (Part TypeTree)
printed text = Printed text ∷ []

-- a literal between its quotes
abbrev pub quoted : List ℕ → List ℕ → List (Part TypeTree)
quoted quote text = printed (quote ++ (text ++ quote))

-- What is told over `inner` has patterns inside, which `inner` reads, and what is told over `types` has types
-- inside, which `types` reads.

-- the `)` behind the last pattern
unfoldable pub closed : Reading Bool
closed = expected RightParen >>= λ _. give false

-- whether another pattern follows: a `,` comes with no `)` behind it; what comes is passed
unfoldable pub more_patterns : Reading Bool
more_patterns = where_next Comma (where_next RightParen (give false) (give true)) closed

-- what is printed behind a pattern, where another one follows or not
abbrev pub separator : Bool → List (Part TypeTree)
separator true = printed (codes ", ")
separator false = []

-- a pattern with what is printed behind it, and whether another one follows
unfoldable pub linked_pattern : Reading (List (Part TypeTree)) → Reading (List (Part TypeTree) × Bool)
linked_pattern inner = inner >>= λ parts. more_patterns >>= λ more. give (parts ++ separator more, more)

-- patterns between commas, up to `)`
unfoldable pub group_by : Reading (List (Part TypeTree)) → Reading (List (Part TypeTree))
group_by inner = where_next RightParen (give []) (spread (linked_pattern inner))

-- what is printed for a group, whose inside this is
abbrev pub enclosed : List (Part TypeTree) → List (Part TypeTree)
enclosed parts = Printed (codes "(") ∷ (parts ++ printed (codes ")"))

-- what follows `(`: patterns between commas, and `)`
unfoldable pub patterns_by : Reading (List (Part TypeTree)) → Reading (List (Part TypeTree))
patterns_by inner = group_by inner >>= λ parts. give (enclosed parts)

-- patterns in parentheses, if they come
unfoldable pub arguments_by : Reading (List (Part TypeTree)) → Reading (List (Part TypeTree))
arguments_by inner = where_next LeftParen (patterns_by inner) (give [])

-- a path, or a path with patterns
unfoldable pub path_pattern_by : Reading (List (Part TypeTree)) → Reading (List (Part TypeTree))
path_pattern_by inner = path false >>= λ p. arguments_by inner >>= λ parts. give (Printed (path_text p) ∷ parts)

-- what follows `<`: the type of what is captured, and `>`
unfoldable pub hole_by : Reading TypeTree → Reading (List (Part TypeTree))
hole_by types = types >>= λ t. expected GreaterThan >>= λ _. give (Hole t ∷ [])

abbrev pub quoted_or_path : Reading (List (Part TypeTree)) → Option (List ℕ) → Reading (List (Part TypeTree))
quoted_or_path inner (Some text) = give (quoted (codes "'") text)
quoted_or_path inner None = path_pattern_by inner

-- a character literal as it stands, or a path, which may have patterns
unfoldable pub char_or_path_by : Reading (List (Part TypeTree)) → Reading (List (Part TypeTree))
char_or_path_by inner = taken kind.CharLiteral >>= quoted_or_path inner

abbrev pub quoted_or_char : Reading (List (Part TypeTree)) → Option (List ℕ) → Reading (List (Part TypeTree))
quoted_or_char inner (Some text) = give (quoted (codes "\"") text)
quoted_or_char inner None = char_or_path_by inner

-- a string or a character literal as it stands, or a path, which may have patterns
unfoldable pub literal_or_path_by : Reading (List (Part TypeTree)) → Reading (List (Part TypeTree))
literal_or_path_by inner = taken kind.StringLiteral >>= quoted_or_char inner

-- a pattern: patterns in parentheses, a hole, `_`, `..`, a string or a character literal, or a path, which
-- may have patterns
unfoldable pub pattern_by : Reading TypeTree → Reading (List (Part TypeTree)) → Reading (List (Part TypeTree))
pattern_by types inner =
    where_next LeftParen (patterns_by inner)
    (where_next LessThan (hole_by types)
    (where_next Underscore (give (printed (codes "_")))
    (where_next DotDot (give (printed (codes "..")))
    (literal_or_path_by inner))))

-- a pattern that nests at most so deep, the types in it counted with it
unfoldable pub pattern_within : ℕ → Reading (List (Part TypeTree))
pattern_within zero = λ ts. Deep
pattern_within (suc depth) = pattern_by (type_within depth) (pattern_within depth)

-- parts laid out: the pieces of text before the last hole, what the holes capture, and the text behind them
pub record Layout : Type 0 where
  pub pieces : List (List ℕ)
  pub holes : List TypeTree
  pub last : List ℕ

-- one part more
abbrev pub laid : Layout → Part TypeTree → Layout
laid l (Printed text) = record { pieces = l.pieces; holes = l.holes; last = l.last ++ text }
laid l (Hole ty) = record { pieces = l.pieces ++ l.last ∷ []; holes = l.holes ++ ty ∷ []; last = [] }

abbrev pub laid_all : Layout → List (Part TypeTree) → Layout
laid_all l [] = l
laid_all l (part ∷ parts) = laid_all (laid l part) parts

-- parts, all of them laid out
abbrev pub layout : List (Part TypeTree) → Layout
layout parts = laid_all (record { pieces = []; holes = []; last = [] }) parts

-- a pattern: the pieces of text round its holes, and what these capture
abbrev pub Pattern : Type 0
Pattern = List (List ℕ) × List TypeTree

abbrev pub pattern_from : Layout → Pattern
pattern_from l = (l.pieces ++ l.last ∷ [], l.holes)

-- a pattern as it stands in a grammar
abbrev pub pattern_of : TokenPattern → Pattern
pattern_of p = (p.pieces, map type_tree p.holes)

-- a pattern that nests at most as deep as a reader goes
unfoldable pub token_pattern : Reading Pattern
token_pattern = pattern_within MOST_DEPTH >>= λ parts. give (pattern_from (layout parts))
