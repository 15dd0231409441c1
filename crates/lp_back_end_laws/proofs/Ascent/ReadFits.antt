-- What holds of each part of a module by recursive ascent holds of its header's parameters, and of the shifts of its states.
use Rattle.std.proofs.Common.{◌≡◌, ℕ, zero, suc, ◌+◌, Bool, true, false, not, List, [], ◌∷◌, ◌++◌, map, decimal, Some, slice_get, subst, arith, if◌then◌else◌}
use Rattle.std.specs.List.{flat_map}
use Rattle.std.proofs.lemmas.List.{map-append}
use Rattle.std.proofs.lemmas.List.Concat.{flat_map-cons}
use Rattle.lp_form.specs.declared.part.Part.TheVariants as part
use Rattle.lp_repr.specs.declared.lr1.Lr1State.{Lr1State}
use Rattle.lp_repr.specs.declared.repr.Grammar.{Grammar}
use Rattle.lp_tree.specs.ProgramTree.{Item, leaf}
use Rattle.lp_build.specs.Built.{leaf_if, over, text_rows, row}
use Rattle.lp_build.specs.Functions.{clause_lines, result_line}
use Rattle.lp_ascent.specs.AnswerLines.{answer_lines}
use Rattle.lp_ascent.specs.BuiltAscent.{ascent_items, ascent_parser, built_ascent, first_call, state_functions, trial_lines}
use Rattle.lp_ascent.specs.ReduceLines.{reduction_lines}
use Rattle.lp_ascent.specs.ShiftLines.{shift_line, shift_lines}
use Rattle.lp_ascent.specs.Slots.{Layout, has_lookahead, layout_at, layouts_of}
use Rattle.lp_ascent.specs.StateLines.{error_lines, gotos_if, new_cells, state_arms, state_header, state_lines, states_from}
use Rattle.lp_table.specs.FrameLines.{inner_uses, parse_generics, parse_header, parse_parameters, own_parameters, tokens_parameter, source_lines, token_use_lines, is_interned, parse_answer}
use Rattle.lp_table.specs.Headers.{clauses_of, declared_texts, header_lines}
use Rattle.lp_table.specs.Starts.{Start, state_text}
use Rattle.lp_table.specs.TableLines.{action_lookup, action_table, goto_function, terminal_names}
use Rattle.lp_agreement.proofs.Composed.Plain.{Each, each_behind, each_front}

module _ (P : Item → Type 0) (g : Grammar) (states : List Lr1State) (st : Start) where
  items_each : Each P (built_ascent g states st) → Each P (ascent_items g states st)
  items_each e = (each_behind P (inner_uses g ++ token_use_lines g) (over part.AscentItems [] (ascent_items g states st)) e.1).1

  abbrev parser_and_states : List Item
  parser_and_states = (ascent_parser g states st ++ answer_lines g) ++ state_functions g states

  before_trials : Each P (ascent_items g states st) → Each P parser_and_states
  before_trials e =
      let a = parser_and_states ++ action_table g states in
      let b = a ++ action_lookup g states in
      let c = b ++ goto_function g states in
      let d = c ++ terminal_names g in
      let f = d ++ trial_lines g states st in
      let h = f ++ leaf part.AscentAccepts (state_text g states ∷ []) in
      each_front P parser_and_states (action_table g states) (each_front P a (action_lookup g states) (each_front P b (goto_function g states) (each_front P c (terminal_names g) (each_front P d (trial_lines g states st)
      (each_front P f (leaf part.AscentAccepts (state_text g states ∷ [])) (each_front P h (leaf part.AscentExpected (state_text g states ∷ [])) e))))))

  header_each : Each P (ascent_parser g states st) → Each P (parse_header g st)
  unfolding ascent_parser
  header_each e = each_front P (parse_header g st) (source_lines g) (each_front P (parse_header g st ++ source_lines g) (first_call g states st) e.1)

  parameters_each : Each P (parse_header g st) → Each P (text_rows part.ParameterRow (parse_parameters g))
  unfolding parse_header header_lines
  parameters_each e =
      let types = text_rows part.TypeRow (parse_generics g) in
      let own = text_rows part.ParameterRow (parse_parameters g) in
      let result = result_line (parse_answer g st) in
      each_behind P types own (each_front P (types ++ own) result (each_front P ((types ++ own) ++ result) (clause_lines (clauses_of g)) e.1))

  own_each : (b : Bool) → Each P (text_rows part.ParameterRow (if b then own_parameters g else own_parameters g ++ tokens_parameter g ∷ [])) → Each P (text_rows part.ParameterRow (declared_texts g))
  own_each true e = e.1
  own_each false e =
      (each_front P (text_rows part.ParameterRow (own_parameters g)) (text_rows part.ParameterRow (tokens_parameter g ∷ [])) (subst (Each P) (map-append (λ text. row part.ParameterRow (text ∷ [])) (own_parameters g) (tokens_parameter g ∷ [])) e)).1

  -- the rows of the grammar's parameters
  pub declared_in : Each P (built_ascent g states st) → Each P (text_rows part.ParameterRow (declared_texts g))
  declared_in e =
      own_each (is_interned g)
      (parameters_each (header_each (each_front P (ascent_parser g states st) (answer_lines g) (each_front P (ascent_parser g states st ++ answer_lines g) (state_functions g states) (before_trials (items_each e))))))

  -- ---- the shifts of states
  abbrev ls : List Layout
  ls = layouts_of g states

  states_each : Each P (built_ascent g states st) → Each P (states_from g states ls 0 states)
  unfolding state_functions
  states_each e = each_behind P (ascent_parser g states st ++ answer_lines g) (state_functions g states) (before_trials (items_each e))

  state_each : (n q : ℕ) (ss : List Lr1State) (s : Lr1State) → slice_get ss q ≡ Some s → Each P (states_from g states ls n ss) → Each P (state_lines g states ls (n + q) s)
  state_each n q [] s at e = absurd cc
  state_each n zero (x ∷ ss) s at e =
      let same : x ≡ s = cc in
      let none : n ≡ n + 0 = omega arith in
      subst (λ k. Each P (state_lines g states ls k s)) none (subst (λ y. Each P (state_lines g states ls n y)) same (each_front P (state_lines g states ls n x) (states_from g states ls (n + 1) ss) e))
  state_each n (suc q) (x ∷ ss) s at e =
      let next : (n + 1) + q ≡ n + suc q = omega arith in
      subst (λ k. Each P (state_lines g states ls k s)) next (state_each (n + 1) q ss s at (each_behind P (state_lines g states ls n x) (states_from g states ls (n + 1) ss) e))

  shifts_each : (n : ℕ) (s : Lr1State) → Each P (state_lines g states ls n s) → Each P (flat_map (shift_line g ls (layout_at ls n)) s.shifts.entries)
  unfolding state_lines state_arms shift_lines
  shifts_each n s e =
      let l = layout_at ls n in
      let front = (state_header g states n l ++ leaf_if (not (has_lookahead l)) part.NextToken) ++ text_rows part.SlotLine (map decimal (new_cells l)) in
      let shifts = shift_lines g ls l s.shifts.entries in
      let arms = each_behind P front (state_arms g ls l s) e.1 in
      each_front P shifts (reduction_lines g l s.reductions) (each_front P (shifts ++ reduction_lines g l s.reductions) (error_lines l) (each_front P ((shifts ++ reduction_lines g l s.reductions) ++ error_lines l) (gotos_if g ls l s) arms))

  one_each : {X : Type 0} (f : X → List Item) (xs : List X) (j : ℕ) (x : X) → slice_get xs j ≡ Some x → Each P (flat_map f xs) → Each P (f x)
  one_each f [] j x at e = absurd cc
  one_each f (y ∷ xs) zero x at e = (let same : y ≡ x = cc in subst (λ z. Each P (f z)) same (each_front P (f y) (flat_map f xs) (subst (Each P) (flat_map-cons f y xs) e)))
  one_each f (y ∷ xs) (suc j) x at e = one_each f xs j x at (each_behind P (f y) (flat_map f xs) (subst (Each P) (flat_map-cons f y xs) e))

  -- a shift of a state
  pub shift_in : (q : ℕ) (s : Lr1State) → slice_get states q ≡ Some s → (j : ℕ) (shift : ℕ × ℕ) → slice_get s.shifts.entries j ≡ Some shift → Each P (built_ascent g states st) → Each P (shift_line g ls (layout_at ls q) shift)
  shift_in q s at j shift there e =
      let none : 0 + q ≡ q = omega arith in
      one_each (shift_line g ls (layout_at ls q)) s.shifts.entries j shift there (shifts_each q s (subst (λ k. Each P (state_lines g states ls k s)) none (state_each 0 q states s at (states_each e))))
