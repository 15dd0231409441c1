-- The module of a start by recursive ascent: its items stand side by side, the parser before all others.
use Rattle.std.proofs.Common.{◌≡◌, ℕ, ◌+◌, ◌==◌, Bool, true, false, List, [], ◌∷◌, ◌++◌, length, decimal, Some, None, refl, ap, ◌∙◌, subst, append_assoc}
use Rattle.std.specs.Prelude.{if◌then◌else◌}
use Rattle.std.specs.Str.{bytes_eq}
use Rattle.lp_form.specs.declared.part.Part.TheVariants as part
use Rattle.lp_repr.specs.Numbering.{terminals_of}
use Rattle.lp_repr.specs.declared.lr1.Lr1State.{Lr1State}
use Rattle.lp_repr.specs.declared.repr.Grammar.{Grammar}
use Rattle.lp_tree.specs.ProgramTree.{leaf}
use Rattle.lp_build.specs.Built as built
use Rattle.lp_build.specs.Functions.{parser_part}
use Rattle.lp_view.specs.PartLists.{Form, hole_of, parts_of, first_that}
use Rattle.lp_table.specs.FrameLines.{is_interned, parse_header, source_lines}
use Rattle.lp_table.specs.Headers.{header_lines}
use Rattle.lp_table.specs.Starts.{Start, state_text}
use Rattle.lp_table.specs.TableLines.{action_lookup, action_table, goto_function, terminal_lines, terminal_names}
use Rattle.lp_ascent.specs.AnswerLines.{answer_lines}
use Rattle.lp_ascent.specs.BuiltAscent.{ascent_items, ascent_parser, built_ascent, first_call, parser_lines, state_functions, trial_lines}
use Rattle.lp_ascent.specs.Slots.{Layout, layouts_of}
use Rattle.lp_ascent.specs.StateLines.{state_lines, states_from}
use Rattle.lp_run.specs.Named.{is_parser, parser_of, entered_by}
use Rattle.lp_question_laws.proofs.Gotos.Whole.{IsWhole}
use Rattle.lp_agreement.proofs.Composed.ModuleParts.{entered_over}
use Rattle.lp_agreement.proofs.Composed.Rows.{AreForms, no_form, one_form, forms_then, parts_are, found_behind}

-- the items of recursive ascent
abbrev pub ascent_form : Grammar → List Lr1State → Start → Form
ascent_form g states st = built.over part.AscentItems [] (ascent_items g states st)

-- ---- the functions of states
-- from a number on
abbrev pub state_forms : Grammar → List Lr1State → List Layout → ℕ → List Lr1State → List Form
state_forms g states ls n [] = []
state_forms g states ls n (s ∷ rest) = state_lines g states ls n s ∷ state_forms g states ls (n + 1) rest

state_whole : (g : Grammar) (states : List Lr1State) (ls : List Layout) (n : ℕ) (s : Lr1State) → IsWhole (state_lines g states ls n s)
unfolding state_lines
state_whole g states ls n s = refl

states_are : (g : Grammar) (states : List Lr1State) (ls : List Layout) (n : ℕ) (rest : List Lr1State) → AreForms (states_from g states ls n rest) (state_forms g states ls n rest)
states_are g states ls n [] = no_form
states_are g states ls n (s ∷ rest) = forms_then (one_form (state_lines g states ls n s) (state_whole g states ls n s)) (states_are g states ls (n + 1) rest)

-- ---- the items
module _ (g : Grammar) (states : List Lr1State) (st : Start) where
  -- behind the parser
  abbrev pub forms_behind : List Form
  forms_behind =
      answer_lines g
      ∷ (state_forms g states (layouts_of g states) 0 states
      ++ action_table g states ∷ action_lookup g states ∷ goto_function g states ∷ terminal_names g ∷ trial_lines g states st ∷ leaf part.AscentAccepts (state_text g states ∷ []) ∷ leaf part.AscentExpected (state_text g states ∷ []) ∷ [])

  lookup_whole : IsWhole (action_lookup g states)
  unfolding action_lookup
  lookup_whole = by (length (terminals_of g) == 1)
    where
      by : (b : Bool) → IsWhole (if b then leaf part.ActionLookupOne (state_text g states ∷ []) else leaf part.ActionLookup (state_text g states ∷ decimal (length (terminals_of g)) ∷ []))
      by true = refl
      by false = refl

  parser_whole : IsWhole (ascent_parser g states st)
  unfolding ascent_parser
  parser_whole = refl

  answers_whole : IsWhole (answer_lines g)
  unfolding answer_lines
  answers_whole = refl

  functions_are : AreForms (state_functions g states) (state_forms g states (layouts_of g states) 0 states)
  unfolding state_functions
  functions_are = states_are g states (layouts_of g states) 0 states

  table_whole : IsWhole (action_table g states)
  unfolding action_table
  table_whole = refl

  goto_whole : IsWhole (goto_function g states)
  unfolding goto_function
  goto_whole = refl

  names_whole : IsWhole (terminal_names g)
  unfolding terminal_lines
  names_whole = refl

  trial_whole : IsWhole (trial_lines g states st)
  unfolding trial_lines
  trial_whole = refl

  side_by_side : (fs : List Form) (a b c d e f h : Form) → ((((((fs ++ a ∷ []) ++ b ∷ []) ++ c ∷ []) ++ d ∷ []) ++ e ∷ []) ++ f ∷ []) ++ h ∷ [] ≡ fs ++ a ∷ b ∷ c ∷ d ∷ e ∷ f ∷ h ∷ []
  side_by_side fs a b c d e f h = simp (append_assoc)

  pub items_are : AreForms (ascent_items g states st) (ascent_parser g states st ∷ forms_behind)
  items_are =
      let functions = state_forms g states (layouts_of g states) 0 states in
      let accepts = leaf part.AscentAccepts (state_text g states ∷ []) in
      let expected = leaf part.AscentExpected (state_text g states ∷ []) in
      let first = forms_then (forms_then (one_form (ascent_parser g states st) parser_whole) (one_form (answer_lines g) answers_whole)) functions_are in
      let tables = forms_then (forms_then (forms_then (forms_then first (one_form (action_table g states) table_whole)) (one_form (action_lookup g states) lookup_whole)) (one_form (goto_function g states) goto_whole)) (one_form (terminal_names g) names_whole) in
      let all = forms_then (forms_then (forms_then tables (one_form (trial_lines g states st) trial_whole)) (one_form accepts refl)) (one_form expected refl) in
      subst (λ (fs : List Form). AreForms (ascent_items g states st) (ascent_parser g states st ∷ answer_lines g ∷ fs))
      (side_by_side functions (action_table g states) (action_lookup g states) (goto_function g states) (terminal_names g) (trial_lines g states st) accepts expected) all

  pub item_rows : parts_of (ascent_form g states st) ≡ ascent_parser g states st ∷ forms_behind
  item_rows = parts_are part.AscentItems [] items_are

  -- ---- its parser
  parser_parses : is_parser (ascent_parser g states st) ≡ true
  unfolding ascent_parser
  parser_parses = by (is_interned g)
    where
      by : (b : Bool) → is_parser (built.over (parser_part true b) (st.visibility ∷ st.public_name ∷ []) (parser_lines g st (first_call g states st))) ≡ true
      by true = refl
      by false = refl

  pub parser_found : parser_of (ascent_form g states st) ≡ Some (ascent_parser g states st)
  parser_found = ap (first_that is_parser) item_rows ∙ found_behind is_parser [] (ascent_parser g states st) forms_behind tt parser_parses

  parser_named : hole_of 1 (ascent_parser g states st) ≡ st.public_name
  unfolding ascent_parser
  parser_named = refl

  -- the header of its `parse` method, where the tokens come from, and the call of the first state
  header_whole : IsWhole (parse_header g st)
  unfolding parse_header header_lines
  header_whole = refl

  source_whole : IsWhole (source_lines g)
  unfolding source_lines
  source_whole = refl

  pub parser_rows : parts_of (ascent_parser g states st) ≡ parse_header g st ∷ source_lines g ∷ first_call g states st ∷ []
  unfolding ascent_parser
  parser_rows =
      parts_are (parser_part true (is_interned g)) (st.visibility ∷ st.public_name ∷ []) (forms_then (forms_then (one_form (parse_header g st) header_whole) (one_form (source_lines g) source_whole)) (one_form (first_call g states st) refl))

  -- ---- the module
  pub entered : (start : List ℕ) → entered_by start (built_ascent g states st) ≡ (if bytes_eq st.public_name start then Some (ascent_form g states st) else None)
  entered = entered_over g st.nonterminal.0 (ascent_form g states st) refl refl (ascent_parser g states st) parser_found st.public_name parser_named
