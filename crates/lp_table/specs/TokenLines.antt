-- From tokens to numbers of terminals and to symbols.
use Rattle.std.specs.Prelude.{ℕ, ◌+◌, ◌==◌, ◌&&◌, nat_lt, Bool, List, [], ◌∷◌, ◌++◌, filter, fold, length, map, slice_get, unwrap_or, codes, decimal, Option, Some, None, if◌then◌else◌}
use Rattle.std.specs.BTreeMap.{get}
use Rattle.std.specs.List.{flat_map, list_any, range_with_len}
use Rattle.lp_form.specs.declared.part.Part.TheVariants as part
use Rattle.lp_repr.specs.NameOrder.{terminal_cmp}
use Rattle.lp_repr.specs.Numbering.{terminals_of}
use Rattle.lp_repr.specs.Shown.{pattern_text}
use Rattle.lp_repr.specs.declared.repr.Grammar.{Grammar}
use Rattle.lp_repr.specs.declared.repr.TerminalString.{TerminalString}
use Rattle.lp_repr.specs.declared.repr.TerminalString.TheVariants.{Quoted, Bare, Error}
use Rattle.lp_repr.specs.declared.repr.TokenPattern.{TokenPattern}
use Rattle.lp_tree.specs.ProgramTree.{Item}
use Rattle.lp_build.specs.Built.{over, row}
use Rattle.lp_build.specs.Tables.{symbol_row}
use Rattle.lp_build.specs.declared.functions.FunctionName.TheVariants as name
use Rattle.lp_parts.specs.Texts.{comma_list, symbol_text, token_text}
use Rattle.lp_parts.specs.Variants.{terminal_variants}
use Rattle.lp_table.specs.declared.tokens.Group.{Group}
use Rattle.lp_table.specs.Headers.{token_header}
use Rattle.lp_table.specs.MachineLines.{phantom_parameter}
use Rattle.lp_table.specs.Pieces.{variant_text}

-- the name of a capture
abbrev pub capture_name : List ℕ → ℕ → List ℕ
capture_name prefix n = prefix ++ (codes "tok" ++ decimal n)

-- the names of so many captures, joined by `, `
abbrev pub capture_names : List ℕ → ℕ → List ℕ
capture_names prefix captures = comma_list (map (capture_name prefix) (range_with_len 0 captures))

-- the pieces of a pattern after the first, each after the name of its capture
abbrev pub pieces_from : List ℕ → ℕ → List (List ℕ) → List ℕ
pieces_from prefix n [] = []
pieces_from prefix n (piece ∷ pieces) = (capture_name prefix n ++ piece) ++ pieces_from prefix (n + 1) pieces

-- pieces with the names of captures between them
abbrev pub named_pieces : List ℕ → List (List ℕ) → List ℕ
named_pieces prefix [] = []
named_pieces prefix (piece ∷ pieces) = piece ++ pieces_from prefix 0 pieces

abbrev pub named_pattern : List ℕ → TokenPattern → List ℕ
named_pattern prefix p = named_pieces prefix p.pieces

-- the pattern of a terminal; the error terminal stands for no token
abbrev pub own_pattern : Grammar → TerminalString → Option TokenPattern
own_pattern g (Quoted text) = get terminal_cmp g.conversions (Quoted text)
own_pattern g (Bare name) = get terminal_cmp g.conversions (Bare name)
own_pattern g Error = None

-- a terminal with a pattern, by its number
abbrev pub integer_row : ℕ → Option TokenPattern → List Item
integer_row n None = []
integer_row n (Some p) = row part.IntegerRow (pattern_text p ∷ decimal n ∷ []) ∷ []

abbrev pub integer_rows : Grammar → ℕ → List TerminalString → List Item
integer_rows g n [] = []
integer_rows g n (t ∷ ts) = integer_row n (own_pattern g t) ++ integer_rows g (n + 1) ts

-- the number of a token's terminal
abbrev pub token_reference : Grammar → List ℕ
token_reference g = g.prefix ++ (codes "token: &" ++ token_text g)

unfoldable pub number_type : List ℕ
number_type = codes "Option<usize>"

unfoldable pub token_numbers : Grammar → List Item
token_numbers g =
    over part.TokenToInteger []
    (token_header g name.TokenToInteger (token_reference g ∷ phantom_parameter g ∷ []) number_type ++ integer_rows g 0 (terminals_of g))

-- a terminal with a pattern: its number, its variant and the pattern
abbrev pub Known : Type 0
Known = ℕ × ℕ × TokenPattern

abbrev pub if_known : ℕ → ℕ → Option TokenPattern → List Known
if_known n variant None = []
if_known n variant (Some p) = (n, variant, p) ∷ []

-- the variant of the terminal of a number
abbrev pub terminal_variant : Grammar → ℕ → ℕ
terminal_variant g n = unwrap_or (slice_get (terminal_variants g) n) 0

abbrev pub known_one : Grammar → ℕ → TerminalString → List Known
known_one g n t = if_known n (terminal_variant g n) (own_pattern g t)

-- the terminals with a pattern, from a number on
abbrev pub known_from : Grammar → ℕ → List TerminalString → List Known
known_from g n [] = []
known_from g n (t ∷ ts) = known_one g n t ++ known_from g (n + 1) ts

abbrev pub known_terminals : Grammar → List Known
known_terminals g = known_from g 0 (terminals_of g)

-- the variant and the number of captures of a terminal
abbrev pub group_of : Known → Group
group_of k = record { variant = k.1; captures = length (k.2).holes }

abbrev pub same_group : Group → Group → Bool
same_group a b = (a.variant == b.variant) && (a.captures == b.captures)

-- groups, each once, in the order of their first terminals
abbrev pub with_group : List Group → Group → List Group
with_group groups group = if list_any (same_group group) groups then groups else groups ++ group ∷ []

abbrev pub groups_of : List Known → List Group
groups_of known = fold with_group [] (map group_of known)

-- the terminals of a group
abbrev pub in_group : Group → List Known → List Known
in_group group known = filter (λ k. same_group group (group_of k)) known

-- the number of a terminal, and its pattern with names in its holes
abbrev pub number_of : Known → ℕ
number_of k = k.0

abbrev pub pattern_of : List ℕ → Known → List ℕ
pattern_of prefix k = named_pattern prefix k.2

-- what a variant holds of so many captures: the one, or a tuple of them
abbrev pub captured_value : List ℕ → ℕ → List ℕ
captured_value prefix captures =
    if nat_lt 1 captures then codes "(" ++ (capture_names prefix captures ++ codes ")") else capture_names prefix captures

-- the patterns of a group, none where they have no captures
abbrev pub group_patterns : List ℕ → ℕ → List Known → List (List ℕ)
group_patterns prefix captures known =
    if nat_lt 0 captures then map (pattern_of prefix) known else []

-- the arm of a group
abbrev pub group_arm : List ℕ → List Known → Group → List Item
group_arm prefix known group =
    symbol_row (map number_of (in_group group known)) (group_patterns prefix group.captures (in_group group known)) (variant_text group.variant) (captured_value prefix group.captures)

-- the value of a token
abbrev pub token_index : Grammar → List ℕ
token_index g = g.prefix ++ codes "token_index: usize"

abbrev pub token_value : Grammar → List ℕ
token_value g = g.prefix ++ (codes "token: " ++ token_text g)

abbrev pub symbols_header : Grammar → List Item
symbols_header g = token_header g name.TokenToSymbol (token_index g ∷ token_value g ∷ phantom_parameter g ∷ []) (symbol_text g)

unfoldable pub token_symbols : Grammar → List Item
token_symbols g =
    over part.TokenToSymbol []
    (symbols_header g
    ++ flat_map (group_arm g.prefix (known_terminals g)) (groups_of (known_terminals g)))
