-- How much the module of a start by tables weighs: at least its fixed forms and the symbols of all productions; and how much the functions of actions weigh.
use Rattle.std.proofs.Common.{◌≡◌, ℕ, zero, suc, ◌+◌, ◌≤◌, ◌==◌, Bool, true, false, if◌then◌else◌, List, [], ◌∷◌, ◌++◌, length, decimal, Some, slice_get, refl, ap, arith, length-append}
use Rattle.std.specs.List.{flat_map}
use Rattle.std.proofs.lemmas.List.{length-map}
use Rattle.std.proofs.lemmas.Option.{same_Some}
use Rattle.lp_form.specs.Forms.{form_of, is_element_of}
use Rattle.lp_form.specs.declared.part.Part.{Part}
use Rattle.lp_form.specs.declared.part.Part.TheVariants as part
use Rattle.lp_repr.specs.Numbering.{productions_of, terminals_of}
use Rattle.lp_repr.specs.declared.lr1.Lr1State.{Lr1State}
use Rattle.lp_repr.specs.declared.repr.ActionFnDefn.{ActionFnDefn}
use Rattle.lp_repr.specs.declared.repr.ActionFnDefnKind.{ActionFnDefnKind}
use Rattle.lp_repr.specs.declared.repr.ActionFnDefnKind.TheVariants.{User, Lookaround, Inline}
use Rattle.lp_repr.specs.declared.repr.Grammar.{Grammar}
use Rattle.lp_repr.specs.declared.repr.InlinedSymbol.{InlinedSymbol}
use Rattle.lp_repr.specs.declared.repr.Production.{Production}
use Rattle.lp_tree.specs.ProgramTree.{Item, leaf}
use Rattle.lp_build.specs.Built as built
use Rattle.lp_build.specs.Built.{row, text_rows}
use Rattle.lp_build.specs.Functions.{parser_part}
use Rattle.lp_build.specs.Reductions.{assert_lines, call_of, outcome_of, pop_lines, span_of}
use Rattle.lp_build.specs.declared.functions.FunctionName.{FunctionName}
use Rattle.lp_build.specs.declared.functions.FunctionName.TheVariants as name
use Rattle.lp_view.specs.Weights.{own_weight}
use Rattle.lp_actions.specs.ActionFunctions.{action_lines, has_parameters, kind_lines, kind_part}
use Rattle.lp_actions.specs.Inlines.{calls_from, inlined_count, outer_arguments, outer_call, outer_from, spans_from, total_width, type_arguments}
use Rattle.lp_actions.specs.Parameters.{width}
use Rattle.lp_table.specs.BuiltTable.{built_table, table_items, with_machine, with_tables}
use Rattle.lp_table.specs.FrameLines.{inner_uses, is_interned, module_parts, parse_header, parser_parts, source_lines, table_parser, token_use_lines, use_lines}
use Rattle.lp_table.specs.Headers.{header_lines, names_of}
use Rattle.lp_table.specs.MachineLines.{acceptance, definition, drive_call, expected_list, implementation, phantom_text, simulated_from, simulation, symbol_values}
use Rattle.lp_table.specs.ReductionLines.{action_arguments, arms_from, functions_from, if_called, is_called, own_function, own_header, pop_functions, produced_of, reduce_function, reduce_functions, reduce_header, reduction_arm, reduction_body, symbol_variant, symbol_variants}
use Rattle.lp_table.specs.Starts.{Start, is_fallible, state_text}
use Rattle.lp_table.specs.TableLines.{action_lookup, action_table, end_table, expected_lines, goto_function, terminal_lines, terminal_names}
use Rattle.lp_table.specs.TokenLines.{integer_rows, symbols_header, token_numbers, token_symbols}
use Rattle.lp_parts.specs.Texts.{generic_names_text}
use Rattle.lp_question_laws.proofs.Gotos.Whole.{flat}
use Rattle.lp_agreement.proofs.Composed.CodedActions.{action_header}
use Rattle.lp_agreement.proofs.Composed.Counting.{and_more, counted, counted-append, in_behind, in_front, rows_counted}
use Rattle.lp_agreement.proofs.Composed.Programs.{action_forms}

-- ---- forms of a module
-- a header counts
pub header_counts : (n : FunctionName) (generics params : List (List ℕ)) (answer : List ℕ) (clauses : List (List ℕ)) → 1 ≤ counted (header_lines n generics params answer clauses)
unfolding header_lines form_of is_element_of
header_counts (name.Parse visibility) generics params answer clauses = omega arith
header_counts name.ExpectedTokensFromStates generics params answer clauses = omega arith
header_counts name.TokenToInteger generics params answer clauses = omega arith
header_counts name.TokenToSymbol generics params answer clauses = omega arith
header_counts name.SimulateReduce generics params answer clauses = omega arith
header_counts name.Accepts generics params answer clauses = omega arith
header_counts name.Reduce generics params answer clauses = omega arith
header_counts (name.ReduceProduction number) generics params answer clauses = omega arith
header_counts (name.State number) generics params answer clauses = omega arith
header_counts (name.Action number) generics params answer clauses = omega arith

-- a part over a header and more
over_header : (p : Part) (holes : List (List ℕ)) (head more : List Item) → own_weight p ≡ 1 → 1 ≤ counted head → 2 ≤ counted (built.over p holes (head ++ more))
over_header p holes head more one h = (let e = in_front 1 head more h in omega (arith, e, one))

over_alone : (p : Part) (holes : List (List ℕ)) (head : List Item) → own_weight p ≡ 1 → 1 ≤ counted head → 2 ≤ counted (built.over p holes head)
over_alone p holes head one h = omega (arith, h, one)

module _ (g : Grammar) (states : List Lr1State) (st : Start) where
  symbols_count : 1 ≤ counted (symbol_values g)
  unfolding symbol_values form_of is_element_of
  symbols_count = omega arith

  pub action_table_counts : 1 ≤ counted (action_table g states)
  unfolding action_table form_of is_element_of
  action_table_counts = omega arith

  pub lookup_counts : 1 ≤ counted (action_lookup g states)
  unfolding action_lookup form_of is_element_of
  lookup_counts = by (length (terminals_of g) == 1)
    where
      by : (b : Bool) → 1 ≤ counted (if b then leaf part.ActionLookupOne (state_text g states ∷ []) else leaf part.ActionLookup (state_text g states ∷ decimal (length (terminals_of g)) ∷ []))
      by true = omega arith
      by false = omega arith

  end_table_counts : 1 ≤ counted (end_table g states)
  unfolding end_table form_of is_element_of
  end_table_counts = omega arith

  pub goto_counts : 1 ≤ counted (goto_function g states)
  unfolding goto_function form_of is_element_of
  goto_counts = omega arith

  pub terminals_count : 1 ≤ counted (terminal_names g)
  unfolding terminal_lines form_of is_element_of
  terminals_count = omega arith

  expected_counts : 1 ≤ counted (expected_lines g states)
  unfolding form_of is_element_of
  expected_counts = omega arith

  list_counts : 2 ≤ counted (expected_list g states)
  unfolding expected_list form_of is_element_of
  list_counts = over_alone part.ExpectedFromStates (phantom_text g ∷ []) _ refl (header_counts name.ExpectedTokensFromStates _ _ _ _)

  definition_counts : 1 ≤ counted (definition g)
  unfolding definition form_of is_element_of
  definition_counts = omega arith

  implementation_counts : 1 ≤ counted (implementation g states st)
  unfolding implementation form_of is_element_of
  implementation_counts = omega arith

  numbers_count : 2 ≤ counted (token_numbers g)
  unfolding token_numbers form_of is_element_of
  numbers_count = over_header part.TokenToInteger [] _ (integer_rows g 0 (terminals_of g)) refl (header_counts name.TokenToInteger _ _ _ _)

  token_symbols_count : 2 ≤ counted (token_symbols g)
  unfolding token_symbols form_of is_element_of
  token_symbols_count = over_header part.TokenToSymbol [] (symbols_header g) _ refl (header_counts name.TokenToSymbol _ _ _ _)

  simulation_counts : 2 ≤ counted (simulation g states st)
  unfolding simulation form_of is_element_of
  simulation_counts = over_header part.SimulateReduce [] _ (simulated_from g st 0 (productions_of g)) refl (header_counts name.SimulateReduce _ _ _ _)

  acceptance_counts : 2 ≤ counted (acceptance g states)
  unfolding acceptance form_of is_element_of
  acceptance_counts = over_alone part.Accepts (phantom_text g ∷ []) _ refl (header_counts name.Accepts _ _ _ _)

  pub parse_header_counts : 1 ≤ counted (parse_header g st)
  unfolding parse_header
  parse_header_counts = header_counts (name.Parse st.visibility) _ _ _ _

  pub source_counts : 1 ≤ counted (source_lines g)
  unfolding source_lines form_of is_element_of
  source_counts = by (is_interned g)
    where
      by : (b : Bool) → 1 ≤ counted (leaf (if b then part.TokenSourceInterned else part.TokenSourcePlain) [])
      by true = omega arith
      by false = omega arith

  drive_counts : 1 ≤ counted (drive_call g)
  unfolding drive_call form_of is_element_of
  drive_counts = omega arith

  parser_over : (b : Bool) (holes : List (List ℕ)) (below : List Item) → 3 ≤ counted below → 4 ≤ counted (built.over (parser_part false b) holes below)
  unfolding form_of is_element_of
  parser_over true holes below h = omega (arith, h)
  parser_over false holes below h = omega (arith, h)

  parser_counts : 4 ≤ counted (table_parser g st (drive_call g))
  unfolding table_parser parser_parts
  parser_counts =
      parser_over (is_interned g) (st.visibility ∷ st.public_name ∷ []) ((parse_header g st ++ source_lines g) ++ drive_call g)
      (and_more 2 1 (parse_header g st ++ source_lines g) (drive_call g) (and_more 1 1 (parse_header g st) (source_lines g) parse_header_counts source_counts) drive_counts)

  mismatch_counts : 1 ≤ counted (leaf part.Mismatch [])
  unfolding form_of is_element_of
  mismatch_counts = omega arith

  tables_count : 7 ≤ counted (with_tables g states (symbol_values g))
  tables_count =
      let a = symbol_values g ++ action_table g states in
      let b = a ++ action_lookup g states in
      let c = b ++ end_table g states in
      let d = c ++ goto_function g states in
      let e = d ++ terminal_names g in
      and_more 6 1 e (expected_lines g states) (and_more 5 1 d (terminal_names g) (and_more 4 1 c (goto_function g states) (and_more 3 1 b (end_table g states) (and_more 2 1 a (action_lookup g states) (and_more 1 1 (symbol_values g) (action_table g states) symbols_count action_table_counts) lookup_counts) end_table_counts) goto_counts) terminals_count) expected_counts

  machine_counts : 17 ≤ counted (with_machine g states st (with_tables g states (symbol_values g)))
  machine_counts =
      let z = with_tables g states (symbol_values g) in
      let a = z ++ expected_list g states in
      let b = a ++ definition g in
      let c = b ++ implementation g states st in
      let d = c ++ token_numbers g in
      let e = d ++ token_symbols g in
      and_more 15 2 e (simulation g states st) (and_more 13 2 d (token_symbols g) (and_more 11 2 c (token_numbers g) (and_more 10 1 b (implementation g states st) (and_more 9 1 a (definition g) (and_more 7 2 z (expected_list g states) tables_count list_counts) definition_counts) implementation_counts) numbers_count) token_symbols_count) simulation_counts

-- ---- productions
-- the symbols of productions
abbrev pub symbols_of : List Production → ℕ
symbols_of [] = 0
symbols_of (p ∷ ps) = length p.symbols + symbols_of ps

pop_counts : own_weight part.PopLine ≡ 1
unfolding form_of is_element_of
pop_counts = refl

pops_counted : (k : ℕ) (vs : List (List ℕ)) → counted (pop_lines k vs) ≡ length vs
pops_counted k [] = refl
pops_counted k (v ∷ vs) =
    let e = counted-append (pop_lines (k + 1) vs) (row part.PopLine (decimal k ∷ v ∷ []) ∷ []) in
    let h = pops_counted (k + 1) vs in
    omega (arith, e, h, pop_counts)

module _ (g : Grammar) (st : Start) where
  -- each symbol is popped
  body_counts : (p : Production) → length p.symbols ≤ counted (reduction_body g st p)
  unfolding reduction_body
  body_counts p =
      let vs = symbol_variants g p in
      let asserts = assert_lines (length vs) in
      let span = span_of (length vs) in
      let call = call_of (is_fallible g p) p.action (generic_names_text g) (action_arguments g (length p.symbols)) in
      let outcome = outcome_of (length vs) (produced_of g st p) in
      let pops : length p.symbols ≤ counted (pop_lines 0 vs) = (let e = pops_counted 0 vs in let l = length-map p.symbols (symbol_variant g) in omega (arith, e, l)) in
      let all : length p.symbols ≤ counted ((((asserts ++ pop_lines 0 vs) ++ span) ++ call) ++ outcome) =
      in_front (length p.symbols) (((asserts ++ pop_lines 0 vs) ++ span) ++ call) outcome (in_front (length p.symbols) ((asserts ++ pop_lines 0 vs) ++ span) call (in_front (length p.symbols) (asserts ++ pop_lines 0 vs) span (in_behind (length p.symbols) asserts (pop_lines 0 vs) pops))) in
      omega (arith, all)

  -- in the function of a production, or in its arm
  production_counts : (n : ℕ) (p : Production) → length p.symbols ≤ counted (reduction_arm g st n p) + counted (if_called g st n p)
  unfolding reduction_arm
  production_counts n p = by (is_called g st p) _
    where
      by : (b : Bool) (arguments : List (List ℕ)) → length p.symbols ≤ counted (if b then leaf part.ReduceCallArm arguments else built.over part.ReduceBodyArm (decimal n ∷ []) (reduction_body g st p)) + counted (if b then own_function g st n p else [])
      by true arguments = (let e = in_behind (length p.symbols) (own_header g n) (reduction_body g st p) (body_counts p) in omega (arith, e))
      by false arguments = (let e = body_counts p in omega (arith, e))

  productions_count : (n : ℕ) (ps : List Production) → symbols_of ps ≤ counted (arms_from g st n ps) + counted (functions_from g st n ps)
  productions_count n [] = omega arith
  productions_count n (p ∷ ps) =
      let h = production_counts n p in
      let more = productions_count (n + 1) ps in
      let a = counted-append (reduction_arm g st n p) (arms_from g st (n + 1) ps) in
      let f = counted-append (if_called g st n p) (functions_from g st (n + 1) ps) in
      omega (arith, h, more, a, f)

module _ (g : Grammar) (states : List Lr1State) (st : Start) where
  reduce_header_counts : 1 ≤ counted (reduce_header g states st)
  unfolding reduce_header
  reduce_header_counts = header_counts name.Reduce _ _ _ _

  reduce_counts : 2 + counted (arms_from g st 0 (productions_of g)) ≤ counted (reduce_function g states st)
  unfolding reduce_function form_of is_element_of
  reduce_counts =
      (let e = and_more 1 (counted (arms_from g st 0 (productions_of g))) (reduce_header g states st) (arms_from g st 0 (productions_of g)) reduce_header_counts (omega arith) in omega (arith, e))

  functions_are : counted (reduce_functions g st) ≡ counted (functions_from g st 0 (productions_of g))
  unfolding reduce_functions
  functions_are = refl

  -- the items of a module
  items_count : 26 + symbols_of (productions_of g) ≤ counted (table_items g states st)
  items_count =
      let z = with_machine g states st (with_tables g states (symbol_values g)) in
      let arms = counted (arms_from g st 0 (productions_of g)) in
      let a = z ++ table_parser g st (drive_call g) in
      let b = a ++ acceptance g states in
      let c = b ++ reduce_function g states st in
      let d = c ++ leaf part.Mismatch [] in
      let front : 23 ≤ counted b = and_more 21 2 a (acceptance g states) (and_more 17 4 z (table_parser g st (drive_call g)) (machine_counts g states st) (parser_counts g states st)) (acceptance_counts g states st) in
      let more : (23 + (2 + arms)) + 1 ≤ counted d = and_more (23 + (2 + arms)) 1 c (leaf part.Mismatch []) (and_more 23 (2 + arms) b (reduce_function g states st) front reduce_counts) (mismatch_counts g states st) in
      let all = and_more ((23 + (2 + arms)) + 1) (counted (reduce_functions g st)) (d ++ pop_functions g) (reduce_functions g st) (in_front ((23 + (2 + arms)) + 1) d (pop_functions g) more) (omega arith) in
      let symbols = productions_count g st 0 (productions_of g) in
      omega (arith, all, symbols, functions_are)

  pub token_use_counts : (b : Bool) → 1 ≤ counted (leaf (if b then part.TokenUseInterned else part.TokenUsePlain) [])
  unfolding form_of is_element_of
  token_use_counts true = omega arith
  token_use_counts false = omega arith

  pub uses_count : 1 ≤ counted (inner_uses g)
  unfolding inner_uses form_of is_element_of
  uses_count = in_behind 1 (flat_map use_lines g.uses) (leaf part.StandardUses []) (omega arith)

  -- a module
  pub module_counts : 29 + symbols_of (productions_of g) ≤ counted (built_table g states st)
  unfolding module_parts form_of is_element_of
  module_counts =
      let n = 26 + symbols_of (productions_of g) in
      let rows : n ≤ counted (built.over part.TableItems [] (table_items g states st)) = (let e = items_count in omega (arith, e)) in
      let all = and_more 2 n (inner_uses g ++ token_use_lines g) (built.over part.TableItems [] (table_items g states st)) (and_more 1 1 (inner_uses g) (token_use_lines g) uses_count (token_use_counts (is_interned g))) rows in
      omega (arith, all)

-- ---- actions
-- the symbols of an inlined action
abbrev pub inlined_symbols : ActionFnDefnKind → ℕ
inlined_symbols (User patterns types code) = 0
inlined_symbols (Lookaround place) = 0
inlined_symbols (Inline outer symbols) = length symbols

-- the symbols of all inlined actions, and two more for each action
abbrev pub steps_of_actions : List ActionFnDefn → ℕ
steps_of_actions [] = 0
steps_of_actions (a ∷ rest) = (2 + inlined_symbols a.kind) + steps_of_actions rest

module _ (g : Grammar) where
  outer_length : (prefix : List ℕ) (n before : ℕ) (symbols : List InlinedSymbol) → length (outer_from prefix n before symbols) ≡ length symbols
  outer_length prefix n before [] = refl
  outer_length prefix n before (s ∷ ss) = ap suc (outer_length prefix (n + inlined_count s) (before + width s) ss)

  argument_counts : own_weight part.ArgumentRow ≡ 1
  unfolding form_of is_element_of
  argument_counts = refl

  -- each symbol is an argument of the outer call
  outer_counts : (fallible : Bool) (outer : ℕ) (symbols : List InlinedSymbol) → length symbols ≤ counted (outer_call g fallible outer symbols)
  outer_counts fallible outer symbols =
      let types = text_rows part.TypeArgument (type_arguments g) in
      let rows = text_rows part.ArgumentRow (outer_arguments g symbols) in
      let count : counted rows ≡ length (outer_arguments g symbols) = rows_counted part.ArgumentRow (outer_arguments g symbols) argument_counts in
      let long : length (outer_arguments g symbols) ≡ length (names_of g) + length (outer_from g.prefix 0 0 symbols) = length-append (names_of g) (outer_from g.prefix 0 0 symbols) in
      let own = outer_length g.prefix 0 0 symbols in
      let all : length symbols ≤ counted (types ++ rows) = in_behind (length symbols) types rows (omega (arith, count, long, own)) in
      omega (arith, all)

  body_lines_count : (fallible : Bool) (kind : ActionFnDefnKind) → inlined_symbols kind ≤ counted (kind_lines g fallible kind)
  body_lines_count fallible (User patterns types code) = omega arith
  body_lines_count fallible (Lookaround place) = omega arith
  body_lines_count fallible (Inline outer symbols) =
      let front = spans_from g.prefix (total_width symbols) 0 0 symbols ++ calls_from g 0 0 symbols in
      let all = in_behind (length symbols) front (outer_call g fallible outer symbols) (outer_counts fallible outer symbols) in
      omega (arith, all)

  kind_counts : (kind : ActionFnDefnKind) (unused : Bool) → own_weight (kind_part kind unused) ≡ 1
  unfolding form_of is_element_of
  kind_counts (User patterns types code) true = refl
  kind_counts (User patterns types code) false = refl
  kind_counts (Lookaround place) true = refl
  kind_counts (Lookaround place) false = refl
  kind_counts (Inline outer symbols) true = refl
  kind_counts (Inline outer symbols) false = refl

  action_counts : (n : ℕ) (a : ActionFnDefn) → 2 + inlined_symbols a.kind ≤ counted (action_lines g n a)
  action_counts n a =
      let both = and_more 1 (inlined_symbols a.kind) (action_header g n a) (kind_lines g a.fallible a.kind) (header_counts (name.Action n) _ _ _ _) (body_lines_count a.fallible a.kind) in
      omega (arith, both, kind_counts a.kind (has_parameters g))

  pub actions_count : (n : ℕ) (actions : List ActionFnDefn) → steps_of_actions actions ≤ counted (flat (action_forms g n actions))
  actions_count n [] = omega arith
  actions_count n (a ∷ rest) = and_more (2 + inlined_symbols a.kind) (steps_of_actions rest) (action_lines g n a) (flat (action_forms g (n + 1) rest)) (action_counts n a) (actions_count (n + 1) rest)

-- a production has no more symbols than all have together
pub symbols_within : (ps : List Production) (k : ℕ) (p : Production) → slice_get ps k ≡ Some p → length p.symbols ≤ symbols_of ps
symbols_within [] k p at = cc
symbols_within (q ∷ ps) zero p at = (let e : length q.symbols ≡ length p.symbols = ap (λ (x : Production). length x.symbols) (same_Some q p at) in omega (arith, e))
symbols_within (q ∷ ps) (suc k) p at = (let h = symbols_within ps k p at in omega (arith, h))

-- nor has an action
pub steps_within : (actions : List ActionFnDefn) (k : ℕ) (a : ActionFnDefn) → slice_get actions k ≡ Some a → 2 + inlined_symbols a.kind ≤ steps_of_actions actions
steps_within [] k a at = cc
steps_within (b ∷ rest) zero a at = (let e : inlined_symbols b.kind ≡ inlined_symbols a.kind = ap (λ (x : ActionFnDefn). inlined_symbols x.kind) (same_Some b a at) in omega (arith, e))
steps_within (b ∷ rest) (suc k) a at = (let h = steps_within rest k a at in omega (arith, h))
