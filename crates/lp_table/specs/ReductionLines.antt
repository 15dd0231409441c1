-- Reductions: what each production pops, calls and pushes.
use Rattle.std.specs.Prelude.{ℕ, ◌+◌, ◌==◌, ◌&&◌, not, Bool, List, [], ◌∷◌, ◌++◌, length, map, slice_get, unwrap_or, codes, decimal, Option, Some, None, if◌then◌else◌}
use Rattle.std.specs.List.{range_with_len}
use Rattle.lp_form.specs.declared.part.Part.TheVariants as part
use Rattle.lp_repr.specs.Numbering.{nonterminal_number, productions_of, symbol_number}
use Rattle.lp_repr.specs.Shown.{parameter_text}
use Rattle.lp_repr.specs.declared.lr1.Lr1State.{Lr1State}
use Rattle.lp_repr.specs.declared.numbering.SymbolNumber.{SymbolNumber}
use Rattle.lp_repr.specs.declared.numbering.SymbolNumber.TheVariants as by_number
use Rattle.lp_repr.specs.declared.repr.Grammar.{Grammar}
use Rattle.lp_repr.specs.declared.repr.Production.{Production}
use Rattle.lp_repr.specs.declared.repr.Symbol.{Symbol}
use Rattle.lp_tree.specs.ProgramTree.{Item, leaf}
use Rattle.lp_build.specs.Built.{over, text_if, text_rows}
use Rattle.lp_build.specs.Reductions.{assert_lines, call_of, outcome_of, pop_lines, span_of}
use Rattle.lp_build.specs.declared.functions.FunctionName.TheVariants as name
use Rattle.lp_build.specs.declared.reductions.Produced.{Produced}
use Rattle.lp_parts.specs.Texts.{arguments_of, comma_list, generic_names_text, location_text, parse_error_text, symbol_clauses_text, symbol_parameters, symbol_parameters_text}
use Rattle.lp_parts.specs.Variants.{nonterminal_variants, terminal_variants}
use Rattle.lp_table.specs.Headers.{grammar_header}
use Rattle.lp_table.specs.MachineLines.{phantom_parameter, phantom_text}
use Rattle.lp_table.specs.Pieces.{borrowed_option, spanned_symbol_text, unless_empty, variant_text, variant_types_shown, vec_of}
use Rattle.lp_table.specs.Starts.{Start, is_fallible, is_start, location_name, state_name, state_text}

-- the variant of a symbol, the first one where it has no number
abbrev pub variant_at : Grammar → Option SymbolNumber → ℕ
variant_at g None = 0
variant_at g (Some (by_number.Terminal n)) = unwrap_or (slice_get (terminal_variants g) n) 0
variant_at g (Some (by_number.Nonterminal n)) = unwrap_or (slice_get (nonterminal_variants g) n) 0

abbrev pub symbol_variant : Grammar → Symbol → List ℕ
symbol_variant g s = variant_text (variant_at g (symbol_number g s))

abbrev pub symbol_variants : Grammar → Production → List (List ℕ)
symbol_variants g p = map (symbol_variant g) p.symbols

-- the name of a popped symbol
abbrev pub symbol_name : List ℕ → ℕ → List ℕ
symbol_name prefix n = prefix ++ (codes "sym" ++ decimal n)

-- so many symbols as arguments, or the span of none
abbrev pub span_arguments : List ℕ → List ℕ
span_arguments prefix = codes "&" ++ (prefix ++ (codes "start, &" ++ (prefix ++ codes "end")))

abbrev pub symbol_arguments : List ℕ → ℕ → List ℕ
symbol_arguments prefix n =
    if n == 0 then span_arguments prefix else comma_list (map (symbol_name prefix) (range_with_len 0 n))

-- the arguments of an action: the parameters, then the symbols
abbrev pub action_arguments : Grammar → ℕ → List ℕ
action_arguments g n = arguments_of g.parameters ++ symbol_arguments g.prefix n

-- the number of a production's nonterminal
abbrev pub left_number : Grammar → Production → ℕ
left_number g p = unwrap_or (nonterminal_number g p.nonterminal) 0

-- what a reduction pushes; the start's pushes nothing
abbrev pub produced_of : Grammar → Start → Production → Option Produced
produced_of g s p =
    if is_start s p then None
    else Some (record { variant = variant_text (unwrap_or (slice_get (nonterminal_variants g) (left_number g p)) 0); nonterminal = left_number g p })

-- the lines of a reduction
unfoldable pub reduction_body : Grammar → Start → Production → List Item
reduction_body g s p =
    over part.ReduceBody []
    ((((assert_lines (length (symbol_variants g p)) ++ pop_lines 0 (symbol_variants g p)) ++ span_of (length (symbol_variants g p)))
    ++ call_of (is_fallible g p) p.action (generic_names_text g) (action_arguments g (length p.symbols)))
    ++ outcome_of (length (symbol_variants g p)) (produced_of g s p))

-- a production has a function of its own
abbrev pub is_called : Grammar → Start → Production → Bool
is_called g s p = not (is_fallible g p) && not (is_start s p)

-- the arm of a production of a number
unfoldable pub reduction_arm : Grammar → Start → ℕ → Production → List Item
reduction_arm g s n p =
    if is_called g s p then leaf part.ReduceCallArm (decimal n ∷ arguments_of g.parameters ∷ phantom_text g ∷ [])
    else over part.ReduceBodyArm (decimal n ∷ []) (reduction_body g s p)

abbrev pub arms_from : Grammar → Start → ℕ → List Production → List Item
arms_from g s n [] = []
arms_from g s n (p ∷ ps) = reduction_arm g s n p ++ arms_from g s (n + 1) ps

-- the parameters of these functions
unfoldable pub action_parameter : Grammar → List Lr1State → List ℕ
action_parameter g states = g.prefix ++ (codes "action: " ++ state_text g states)

unfoldable pub state_list : List ℕ → List ℕ → List ℕ
state_list prefix list = prefix ++ (codes "states: &mut " ++ list)

unfoldable pub stack_parameter : Grammar → List Lr1State → List ℕ
stack_parameter g states = state_list g.prefix (vec_of (state_name g states))

unfoldable pub lookahead_parameter : Grammar → List ℕ
lookahead_parameter g = g.prefix ++ (codes "lookahead_start: " ++ borrowed_option (location_name g))

unfoldable pub symbols_parameter : Grammar → List ℕ
symbols_parameter g = g.prefix ++ (codes "symbols: &mut " ++ vec_of (spanned_symbol_text g))

unfoldable pub reduce_answer : Grammar → Start → List ℕ
reduce_answer g s = codes "Option<Result<" ++ (s.ty ++ (codes "," ++ (parse_error_text g ++ codes ">>")))

unfoldable pub reduce_header : Grammar → List Lr1State → Start → List Item
reduce_header g states s =
    grammar_header g name.Reduce [] (action_parameter g states ∷ lookahead_parameter g ∷ stack_parameter g states ∷ symbols_parameter g ∷ phantom_parameter g ∷ []) (reduce_answer g s)

-- the function that reduces by any production
unfoldable pub reduce_function : Grammar → List Lr1State → Start → List Item
reduce_function g states s = over part.Reduce [] (reduce_header g states s ++ arms_from g s 0 (productions_of g))

-- where a reduction starts and ends
unfoldable pub places_type : List ℕ
places_type = codes "(usize, usize)"

-- the function of a production, if it has one
unfoldable pub own_header : Grammar → ℕ → List Item
own_header g n =
    grammar_header g (name.ReduceProduction n) [] (lookahead_parameter g ∷ symbols_parameter g ∷ phantom_parameter g ∷ []) places_type

abbrev pub own_function : Grammar → Start → ℕ → Production → List Item
own_function g s n p = over part.ReduceFn [] (own_header g n ++ reduction_body g s p)

abbrev pub if_called : Grammar → Start → ℕ → Production → List Item
if_called g s n p = if is_called g s p then own_function g s n p else []

abbrev pub functions_from : Grammar → Start → ℕ → List Production → List Item
functions_from g s n [] = []
functions_from g s n (p ∷ ps) = if_called g s n p ++ functions_from g s (n + 1) ps

-- the function that takes a symbol of a variant
abbrev pub pop_function : Grammar → ℕ → List ℕ → List Item
pop_function g n ty =
    over part.Pop (variant_text n ∷ location_text g ∷ symbol_parameters_text g ∷ ty ∷ [])
    (text_rows part.PopRow (map parameter_text (symbol_parameters g)) ++ text_if part.WhereLine (unless_empty (symbol_clauses_text g)))

abbrev pub pops_from : Grammar → ℕ → List (List ℕ) → List Item
pops_from g n [] = []
pops_from g n (ty ∷ types) = pop_function g n ty ++ pops_from g (n + 1) types

-- all of both
unfoldable pub pop_functions : Grammar → List Item
pop_functions g = pops_from g 0 (variant_types_shown g)

unfoldable pub reduce_functions : Grammar → Start → List Item
reduce_functions g s = functions_from g s 0 (productions_of g)
