-- How much the module of a start by recursive ascent weighs: at least its fixed forms, and those of each state's function.
use Rattle.std.proofs.Common.{◌≡◌, ℕ, ◌+◌, ◌*◌, ◌≤◌, not, Bool, true, false, List, [], ◌∷◌, ◌++◌, length, map, decimal, refl, arith, length-append}
use Rattle.lp_form.specs.Forms.{form_of, is_element_of}
use Rattle.lp_form.specs.declared.part.Part.TheVariants as part
use Rattle.lp_repr.specs.declared.lr1.Lr1State.{Lr1State}
use Rattle.lp_repr.specs.declared.repr.Grammar.{Grammar}
use Rattle.lp_tree.specs.ProgramTree.{Item, leaf}
use Rattle.lp_build.specs.Built as built
use Rattle.lp_build.specs.Built.{leaf_if, text_rows}
use Rattle.lp_build.specs.Functions.{clause_lines, name_part, parser_part, result_line}
use Rattle.lp_build.specs.declared.functions.FunctionName.{FunctionName}
use Rattle.lp_build.specs.declared.functions.FunctionName.TheVariants as name
use Rattle.lp_view.specs.Weights.{own_weight}
use Rattle.lp_ascent.specs.AnswerLines.{answer_lines}
use Rattle.lp_ascent.specs.BuiltAscent.{ascent_items, ascent_parser, built_ascent, first_call, state_functions, trial_lines}
use Rattle.lp_ascent.specs.ShiftLines.{shift_lines}
use Rattle.lp_ascent.specs.ReduceLines.{reduction_lines}
use Rattle.lp_ascent.specs.Slots.{Layout, has_lookahead, layout_at, layouts_of, optional_of}
use Rattle.lp_ascent.specs.StateLines.{error_lines, gotos_if, lookahead_if, new_cells, slot_parameters, state_answer, state_arms, state_header, state_lines, state_parameters, states_from, tokens_generic, tokens_parameter}
use Rattle.lp_table.specs.FrameLines.{inner_uses, is_interned, parse_header, source_lines, token_use_lines}
use Rattle.lp_table.specs.Headers.{clauses_of, declared_texts, generics_of, header_lines}
use Rattle.lp_table.specs.MachineLines.{phantom_parameter}
use Rattle.lp_table.specs.ReductionLines.{stack_parameter}
use Rattle.lp_table.specs.Starts.{Start, state_text}
use Rattle.lp_table.specs.TableLines.{action_lookup, action_table, goto_function, terminal_names}
use Rattle.lp_agreement.proofs.Composed.Counting.{and_more, counted, in_behind, in_front, rows_counted}
use Rattle.lp_agreement.proofs.Composed.Weights.{action_table_counts, goto_counts, lookup_counts, parse_header_counts, source_counts, terminals_count, token_use_counts, uses_count}

-- ---- headers
name_counts : (n : FunctionName) → own_weight (name_part n) ≡ 1
unfolding form_of
name_counts (name.Parse visibility) = refl
name_counts name.ExpectedTokensFromStates = refl
name_counts name.TokenToInteger = refl
name_counts name.TokenToSymbol = refl
name_counts name.SimulateReduce = refl
name_counts name.Accepts = refl
name_counts name.Reduce = refl
name_counts (name.ReduceProduction number) = refl
name_counts (name.State number) = refl
name_counts (name.Action number) = refl

type_counts : own_weight part.TypeRow ≡ 1
unfolding form_of is_element_of
type_counts = refl

parameter_counts : own_weight part.ParameterRow ≡ 1
unfolding form_of is_element_of
parameter_counts = refl

-- a header counts itself, its type parameters and its parameters
pub header_weighs : (n : FunctionName) (generics params : List (List ℕ)) (answer : List ℕ) (clauses : List (List ℕ)) → 1 + length generics + length params ≤ counted (header_lines n generics params answer clauses)
unfolding header_lines
header_weighs n generics params answer clauses =
    let own = name_counts n in
    let types = rows_counted part.TypeRow generics type_counts in
    let rows = rows_counted part.ParameterRow params parameter_counts in
    let both = and_more (length generics) (length params) (text_rows part.TypeRow generics) (text_rows part.ParameterRow params) (omega (arith, types)) (omega (arith, rows)) in
    let front = text_rows part.TypeRow generics ++ text_rows part.ParameterRow params in
    let all = in_front (length generics + length params) (front ++ result_line answer) (clause_lines clauses) (in_front (length generics + length params) front (result_line answer) both) in
    omega (arith, own, all)

-- ---- the function of a state
module _ (g : Grammar) (states : List Lr1State) where
  parameters_long : (l : Layout) → 3 ≤ length (state_parameters g states l)
  parameters_long l =
      let front = tokens_parameter g ∷ stack_parameter g states ∷ [] in
      let slots = slot_parameters g (optional_of l) 0 l.symbols in
      let a = length-append ((front ++ lookahead_if g l) ++ slots) (phantom_parameter g ∷ []) in
      let b = length-append (front ++ lookahead_if g l) slots in
      let c = length-append front (lookahead_if g l) in
      omega (arith, a, b, c)

  header_counts : (n : ℕ) (l : Layout) → 5 ≤ counted (state_header g states n l)
  unfolding state_header
  header_counts n l =
      let own = header_weighs (name.State n) (generics_of g ++ tokens_generic g ∷ []) (declared_texts g ++ state_parameters g states l) (state_answer g) (clauses_of g) in
      let types = length-append (generics_of g) (tokens_generic g ∷ []) in
      let rows = length-append (declared_texts g) (state_parameters g states l) in
      let long = parameters_long l in
      omega (arith, own, types, rows, long)

  error_counts : (l : Layout) → 1 ≤ counted (error_lines l)
  unfolding form_of
  error_counts l = omega arith

  arms_count : (ls : List Layout) (l : Layout) (s : Lr1State) → 1 ≤ counted (state_arms g ls l s)
  unfolding state_arms
  arms_count ls l s =
      let moves = shift_lines g ls l s.shifts.entries ++ reduction_lines g l s.reductions in
      in_front 1 (moves ++ error_lines l) (gotos_if g ls l s) (in_behind 1 moves (error_lines l) (error_counts l))

  state_counts : (ls : List Layout) (n : ℕ) (s : Lr1State) → 7 ≤ counted (state_lines g states ls n s)
  unfolding state_lines form_of
  state_counts ls n s =
      let l = layout_at ls n in
      let token = leaf_if (not (has_lookahead l)) part.NextToken in
      let cells = text_rows part.SlotLine (map decimal (new_cells l)) in
      let front = in_front 5 (state_header g states n l ++ token) cells (in_front 5 (state_header g states n l) token (header_counts n l)) in
      let all = and_more 5 1 ((state_header g states n l ++ token) ++ cells) (state_arms g ls l s) front (arms_count ls l s) in
      omega (arith, all)

  states_count : (ls : List Layout) (n : ℕ) (rest : List Lr1State) → 7 * length rest ≤ counted (states_from g states ls n rest)
  states_count ls n [] = omega arith
  states_count ls n (s ∷ rest) = (let e = and_more 7 (7 * length rest) (state_lines g states ls n s) (states_from g states ls (n + 1) rest) (state_counts ls n s) (states_count ls (n + 1) rest) in omega (arith, e))

  functions_count : 7 * length states ≤ counted (state_functions g states)
  unfolding state_functions
  functions_count = states_count (layouts_of g states) 0 states

-- ---- the module
module _ (g : Grammar) (states : List Lr1State) (st : Start) where
  call_counts : 1 ≤ counted (first_call g states st)
  unfolding form_of
  call_counts = omega arith

  parser_over : (b : Bool) (holes : List (List ℕ)) (below : List Item) → 3 ≤ counted below → 4 ≤ counted (built.over (parser_part true b) holes below)
  unfolding form_of
  parser_over true holes below h = omega (arith, h)
  parser_over false holes below h = omega (arith, h)

  parser_counts : 4 ≤ counted (ascent_parser g states st)
  unfolding ascent_parser
  parser_counts =
      parser_over (is_interned g) (st.visibility ∷ st.public_name ∷ []) ((parse_header g st ++ source_lines g) ++ first_call g states st)
      (and_more 2 1 (parse_header g st ++ source_lines g) (first_call g states st) (and_more 1 1 (parse_header g st) (source_lines g) (parse_header_counts g states st) (source_counts g states st)) call_counts)

  answers_count : 1 ≤ counted (answer_lines g)
  unfolding answer_lines form_of
  answers_count = omega arith

  trials_count : 1 ≤ counted (trial_lines g states st)
  unfolding trial_lines form_of
  trials_count = omega arith

  accepts_counts : 1 ≤ counted (leaf part.AscentAccepts (state_text g states ∷ []))
  unfolding form_of
  accepts_counts = omega arith

  expected_counts : 1 ≤ counted (leaf part.AscentExpected (state_text g states ∷ []))
  unfolding form_of
  expected_counts = omega arith

  items_count : 12 + 7 * length states ≤ counted (ascent_items g states st)
  items_count =
      let n = 7 * length states in
      let z = (ascent_parser g states st ++ answer_lines g) ++ state_functions g states in
      let a = z ++ action_table g states in
      let b = a ++ action_lookup g states in
      let c = b ++ goto_function g states in
      let d = c ++ terminal_names g in
      let e = d ++ trial_lines g states st in
      let f = e ++ leaf part.AscentAccepts (state_text g states ∷ []) in
      let first : 5 + n ≤ counted z = and_more 5 n (ascent_parser g states st ++ answer_lines g) (state_functions g states) (and_more 4 1 (ascent_parser g states st) (answer_lines g) parser_counts answers_count) (functions_count g states) in
      let tables : 9 + n ≤ counted d =
      (let t = and_more (5 + n) 1 z (action_table g states) first (action_table_counts g states st) in
      let u = and_more ((5 + n) + 1) 1 a (action_lookup g states) t (lookup_counts g states st) in
      let v = and_more (((5 + n) + 1) + 1) 1 b (goto_function g states) u (goto_counts g states st) in
      let w = and_more ((((5 + n) + 1) + 1) + 1) 1 c (terminal_names g) v (terminals_count g states st) in omega (arith, w)) in
      let t = and_more (9 + n) 1 d (trial_lines g states st) tables trials_count in
      let u = and_more ((9 + n) + 1) 1 e (leaf part.AscentAccepts (state_text g states ∷ [])) t accepts_counts in
      let v = and_more (((9 + n) + 1) + 1) 1 f (leaf part.AscentExpected (state_text g states ∷ [])) u expected_counts in
      omega (arith, v)

  pub ascent_module_counts : 15 + 7 * length states ≤ counted (built_ascent g states st)
  unfolding form_of
  ascent_module_counts =
      let n = 12 + 7 * length states in
      let rows : n ≤ counted (built.over part.AscentItems [] (ascent_items g states st)) = (let e = items_count in omega (arith, e)) in
      let all = and_more 2 n (inner_uses g ++ token_use_lines g) (built.over part.AscentItems [] (ascent_items g states st)) (and_more 1 1 (inner_uses g) (token_use_lines g) (uses_count g states st) (token_use_counts g states st (is_interned g))) rows in
      omega (arith, all)
