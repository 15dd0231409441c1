-- The parser of a module of recursive ascent, and the module that is made: `parse` calls the function that comes last.
use Rattle.std.proofs.Common.{◌≡◌, ℕ, List, [], ◌∷◌, ◌++◌, length, map, Some, None, refl, ap, ◌∙◌, if◌then◌else◌}
use Rattle.lp_form.specs.declared.part.Part.TheVariants as part
use Rattle.lp_repr.specs.declared.lr1.Lr1State.{Lr1State}
use Rattle.lp_repr.specs.declared.repr.Grammar.{Grammar}
use Rattle.lp_tree.specs.ProgramTree.{leaf}
use Rattle.lp_table.specs.FrameLines.{is_interned, parse_header, source_lines}
use Rattle.lp_table.specs.Headers.{header_lines}
use Rattle.lp_table.specs.Starts.{Start}
use Rattle.lp_view.specs.PartLists.{Form, is_a, first_that}
use Rattle.lp_maker.specs.Making.{Making, finished, with_variant}
use Rattle.lp_maker.specs.Slots.{Names}
use Rattle.lp_bodies.specs.Reductions.{function_done}
use Rattle.lp_core.specs.declared.expr.Function.{Function}
use Rattle.lp_ascent_bodies.specs.AscentStarts.{start}
use Rattle.lp_ascent.specs.AnswerLines.{answer_name}
use Rattle.lp_ascent.specs.BuiltAscent.{ascent_parser, first_call}
use Rattle.lp_run.specs.Entered.{made_after, module_made}
use Rattle.lp_run.specs.Module.{Module}
use Rattle.lp_run.specs.ParseMethod.{Parsing, By_call, called, parse_made, parser_called, parameters_of, start_function, started}
use Rattle.lp_question_laws.proofs.Gotos.LinkModule.{complete}
use Rattle.lp_question_laws.proofs.Gotos.LinkTable.{by_both}
use Rattle.lp_agreement.proofs.Composed.AscentModules.{ascent_form, parser_found, parser_rows}
use Rattle.lp_back_end_laws.proofs.Ascent.Runs.{ascent_module}
use Rattle.lp_back_end_laws.proofs.Ascent.NamedRows.{last}

module _ (g : Grammar) (states : List Lr1State) (st : Start) where
  abbrev items : Form
  items = ascent_form g states st

  source_is : (P : Form → Type 0) → P (leaf part.TokenSourceInterned []) → P (leaf part.TokenSourcePlain []) → P (source_lines g)
  unfolding source_lines
  source_is P a b = by_both (λ b. P (leaf (if b then part.TokenSourceInterned else part.TokenSourcePlain) [])) a b (is_interned g)

  no_drive : first_that (is_a part.Drive) (parse_header g st ∷ source_lines g ∷ first_call g states st ∷ []) ≡ None
  unfolding parse_header header_lines
  no_drive = source_is (λ f. first_that (is_a part.Drive) (f ∷ first_call g states st ∷ []) ≡ None) refl refl

  start_found : first_that (is_a part.Start) (parse_header g st ∷ source_lines g ∷ first_call g states st ∷ []) ≡ Some (first_call g states st)
  unfolding parse_header header_lines
  start_found = source_is (λ f. first_that (is_a part.Start) (f ∷ first_call g states st ∷ []) ≡ Some (first_call g states st)) refl refl

  -- `parse` is the start's function
  pub parse_is : (m : Making) (names : Names) → parse_made m items names ≡ start_function m names (first_call g states st)
  unfolding parse_made
  parse_is m names =
      ap (parser_called m items names) (parser_found g states st)
      ∙ ap (λ (fs : List Form). called m items names (ascent_parser g states st) (first_that (is_a part.Drive) fs)) (parser_rows g states st)
      ∙ ap (called m items names (ascent_parser g states st)) no_drive
      ∙ ap (λ (fs : List Form). started m names (first_that (is_a part.Start) fs)) (parser_rows g states st)
      ∙ ap (started m names) start_found

  module _ (prefix : List ℕ) (program : Form) where
    abbrev pub own_names : Names
    own_names = parameters_of prefix items

    -- the function that `parse` calls
    abbrev pub start_code : Function
    start_code = function_done own_names.next (start (last g states st prefix program) own_names (first_call g states st))

    -- with the variant of the start's nonterminal
    abbrev pub started_last : Making
    started_last = with_variant (answer_name st.nonterminal) (last g states st prefix program)

    pub record AscentMade (made : Module) : Type 0 where
      pub parses : made.parse ≡ By_call (length (last g states st prefix program).functions)
      pub functions : made.functions ≡ map finished ((last g states st prefix program).functions ++ Some start_code ∷ [])
      pub tables : made.tables ≡ (last g states st prefix program).tables
      pub texts : made.texts ≡ (last g states st prefix program).texts
      pub closure : made.closure ≡ (last g states st prefix program).item_closure
      pub params : made.params ≡ own_names.next

    pub ascent_made : AscentMade (ascent_module prefix program g states st)
    unfolding complete module_made made_after
    ascent_made =
        let whole = parse_is (last g states st prefix program) own_names in
        record {
          parses = ap (λ (p : Parsing). p.parse) whole;
          functions = ap (λ (p : Parsing). map finished p.made.functions) whole;
          tables = ap (λ (p : Parsing). p.made.tables) whole;
          texts = ap (λ (p : Parsing). p.made.texts) whole;
          closure = refl;
          params = refl;
        }
