-- The function of a state.
use Rattle.std.specs.Prelude.{ℕ, zero, suc, ◌+◌, ◌-◌, ◌==◌, not, nat_lt, Bool, List, [], ◌∷◌, ◌++◌, map, codes, decimal, if◌then◌else◌}
use Rattle.std.specs.List.{range_with_len}
use Rattle.lp_form.specs.declared.part.Part.TheVariants as part
use Rattle.lp_repr.specs.ShownTypes.{type_text}
use Rattle.lp_repr.specs.declared.lr1.Lr1State.{Lr1State}
use Rattle.lp_repr.specs.declared.repr.Grammar.{Grammar}
use Rattle.lp_repr.specs.declared.repr.Symbol.{Symbol}
use Rattle.lp_tree.specs.ProgramTree.{Item, leaf}
use Rattle.lp_build.specs.Built.{leaf_if, over, text_rows}
use Rattle.lp_build.specs.declared.functions.FunctionName.TheVariants as name
use Rattle.lp_parts.specs.Texts.{location_text, parse_error_text, spanned_of, token_text, triple_text}
use Rattle.lp_table.specs.Headers.{grammar_header}
use Rattle.lp_table.specs.MachineLines.{phantom_parameter}
use Rattle.lp_table.specs.ReductionLines.{stack_parameter}
use Rattle.lp_table.specs.Starts.{symbol_type}
use Rattle.lp_ascent.specs.AnswerLines.{answer_parameters_text, located}
use Rattle.lp_ascent.specs.GotoLines.{goes_on, goto_lines}
use Rattle.lp_ascent.specs.ReduceLines.{reduction_lines}
use Rattle.lp_ascent.specs.ShiftLines.{shift_lines}
use Rattle.lp_ascent.specs.Slots.{Layout, count_of, has_lookahead, is_cell, layout_at, optional_of}

-- the further type parameter, and what the function answers
unfoldable pub tokens_generic : Grammar → List ℕ
tokens_generic g =
    g.prefix ++ (codes "TOKENS: Iterator<Item=Result<" ++ (triple_text g ++ (codes "," ++ (parse_error_text g ++ codes ">>"))))

unfoldable pub state_answer : Grammar → List ℕ
state_answer g =
    codes "Result<(Option<" ++ (triple_text g ++ (codes ">, " ++ (g.prefix ++ (codes "Nonterminal<" ++ (answer_parameters_text g ++ (codes ">), " ++ (parse_error_text g ++ codes ">")))))))

-- the parameters: tokens, the stack of states, the lookahead, the slots
unfoldable pub tokens_parameter : Grammar → List ℕ
tokens_parameter g = g.prefix ++ (codes "tokens: &mut " ++ (g.prefix ++ codes "TOKENS"))

unfoldable pub lookahead_parameter : Grammar → List ℕ
lookahead_parameter g = g.prefix ++ (codes "lookahead: Option<" ++ (triple_text g ++ codes ">"))

abbrev pub lookahead_if : Grammar → Layout → List (List ℕ)
lookahead_if g l = if has_lookahead l then lookahead_parameter g ∷ [] else []

-- a slot that a callee may have taken, and one that is handed over by value
abbrev pub optional_slot : List ℕ → ℕ → List ℕ → List ℕ
optional_slot prefix n ty = prefix ++ (codes "sym" ++ (decimal n ++ (codes ": &mut Option<" ++ (ty ++ codes ">"))))

abbrev pub fixed_slot : List ℕ → ℕ → List ℕ → List ℕ
fixed_slot prefix n ty = prefix ++ (codes "sym" ++ (decimal n ++ (codes ": " ++ ty)))

abbrev pub slot_type : Grammar → Symbol → List ℕ
slot_type g symbol = spanned_of (location_text g) (type_text (symbol_type g symbol))

abbrev pub slot_parameter : Grammar → ℕ → ℕ → Symbol → List ℕ
slot_parameter g optional n symbol =
    if nat_lt n optional then optional_slot g.prefix n (slot_type g symbol) else fixed_slot g.prefix n (slot_type g symbol)

-- the slots from a number on
abbrev pub slot_parameters : Grammar → ℕ → ℕ → List Symbol → List (List ℕ)
slot_parameters g optional n [] = []
slot_parameters g optional n (symbol ∷ symbols) = slot_parameter g optional n symbol ∷ slot_parameters g optional (n + 1) symbols

abbrev pub state_parameters : Grammar → List Lr1State → Layout → List (List ℕ)
state_parameters g states l =
    (((tokens_parameter g ∷ stack_parameter g states ∷ []) ++ lookahead_if g l) ++ slot_parameters g (optional_of l) 0 l.symbols)
    ++ phantom_parameter g ∷ []

unfoldable pub state_header : Grammar → List Lr1State → ℕ → Layout → List Item
state_header g states n l =
    grammar_header g (name.State n) (tokens_generic g ∷ []) (state_parameters g states l) (state_answer g)

-- the fixed slots that become cells
abbrev pub new_cells : Layout → List ℕ
new_cells l = if l.made_optional then range_with_len (optional_of l) (count_of l - optional_of l) else []

-- the numbers below one, the greatest first
abbrev pub downwards : ℕ → List ℕ
downwards zero = []
downwards (suc n) = n ∷ downwards n

-- an error at the end of input is where the first full slot ends, from the top down
abbrev pub error_in : Layout → ℕ → List Item
error_in l top =
    if is_cell l top then over part.LocationChain [] (text_rows part.LocationRow (map decimal (downwards (count_of l))))
    else leaf part.LocationFixed (decimal top ∷ [])

abbrev pub error_location : Layout → List Item
error_location l = if count_of l == 0 then leaf part.LocationDefault [] else error_in l (count_of l - 1)

abbrev pub error_lines : Layout → List Item
error_lines l = over part.ErrorArm [] (error_location l)

-- the gotos, where a frame goes on
abbrev pub gotos_if : Grammar → List Layout → Layout → Lr1State → List Item
gotos_if g ls l state = if goes_on g ls state then goto_lines g ls l state.gotos.entries else []

-- what the function does
unfoldable pub state_arms : Grammar → List Layout → Layout → Lr1State → List Item
state_arms g ls l state =
    ((shift_lines g ls l state.shifts.entries ++ reduction_lines g l state.reductions) ++ error_lines l) ++ gotos_if g ls l state

-- the function of a state of a number that has these slots
abbrev pub state_with : Grammar → List Lr1State → List Layout → ℕ → Lr1State → Layout → List Item
state_with g states ls n state l =
    over part.StateFn (located g (token_text g) ∷ answer_parameters_text g ∷ [])
    (((state_header g states n l ++ leaf_if (not (has_lookahead l)) part.NextToken) ++ text_rows part.SlotLine (map decimal (new_cells l)))
    ++ state_arms g ls l state)

unfoldable pub state_lines : Grammar → List Lr1State → List Layout → ℕ → Lr1State → List Item
state_lines g states ls n state = state_with g states ls n state (layout_at ls n)

-- the functions of states, from a number on
abbrev pub states_from : Grammar → List Lr1State → List Layout → ℕ → List Lr1State → List Item
states_from g states ls n [] = []
states_from g states ls n (state ∷ rest) = state_lines g states ls n state ++ states_from g states ls (n + 1) rest
