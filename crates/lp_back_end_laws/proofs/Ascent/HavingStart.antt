-- A program of recursive ascent has the function that `parse` calls, made where the first state has its number.
use Rattle.std.proofs.Common.{◌≡◌, ℕ, ◌<◌, List, [], ◌∷◌, ◌++◌, length, codes, Some, sym, ap, ◌∙◌, arith}
use Rattle.std.specs.Prelude.{slice_get}
use Rattle.std.proofs.lemmas.Fmt.{decimal_digit}
use Rattle.lp_repr.specs.Numbering.{nonterminals_of}
use Rattle.lp_repr.specs.declared.lr1.Lr1State.{Lr1State}
use Rattle.lp_repr.specs.declared.repr.Grammar.{Grammar}
use Rattle.lp_core.specs.declared.expr.Function.{Function}
use Rattle.lp_core.specs.declared.value.Tag.TheVariants as tag
use Rattle.lp_core.specs.Store.{Program}
use Rattle.lp_table.specs.Starts.{Start}
use Rattle.lp_view.specs.PartLists.{Form}
use Rattle.lp_maker.specs.Making.{Making, number_in, variant_tag}
use Rattle.lp_maker.specs.Slots.{Names}
use Rattle.lp_bodies.specs.Reductions.{function_done}
use Rattle.lp_ascent_bodies.specs.AscentStarts.{start}
use Rattle.lp_ascent.specs.AnswerLines.{answer_name}
use Rattle.lp_ascent.specs.BuiltAscent.{first_call}
use Rattle.lp_run.specs.Module.{Module}
use Rattle.lp_run.specs.ParseMethod.{By_call}
use Rattle.lp_question_laws.proofs.Gotos.Goto.{Counts}
use Rattle.lp_question_laws.proofs.Gotos.LinkMaps.{get_end}
use Rattle.lp_question_laws.proofs.Gotos.LinkModule.{finished_there}
use Rattle.lp_back_end_laws.proofs.Call.Pulls.{HasClosure}
use Rattle.lp_back_end_laws.proofs.Ascent.Runs.{RunsAscent, ascent_module}
use Rattle.lp_back_end_laws.proofs.Ascent.NamedRows.{expected_told}
use Rattle.lp_back_end_laws.proofs.Ascent.StartRow.{ascent_made, own_names, start_code}
use Rattle.lp_back_end_laws.proofs.Ascent.Having.{closure_there, start_variant, variant, whole}
use Rattle.lp_back_end_laws.proofs.Ascent.HavingStates.{function, state_numbered}

-- the function that a module's `parse` calls, by these names of parameters
pub record HasStart (g : Grammar) (states : List Lr1State) (st : Start) (p : Program) (entered : Module) (names : Names) (function variant : ℕ → ℕ) : Type 0 where
  pub number : ℕ
  pub parses : entered.parse ≡ By_call number
  pub params : entered.params ≡ names.next
  pub maker : Making
  pub prefix : maker.prefix ≡ g.prefix
  pub first_named : number_in (codes "state0") maker.names ≡ Some (function 0)
  pub tagged : (k : ℕ) → slice_get (nonterminals_of g) k ≡ Some st.nonterminal → variant_tag (answer_name st.nonterminal) maker ≡ tag.Variant (variant k)
  pub closure : HasClosure p maker.item_closure
  pub there : slice_get p.functions number ≡ Some (function_done names.next (start maker names (first_call g states st)))

module _ {prefix : List ℕ} {program : Form} {g : Grammar} {states : List Lr1State} {st : Start} {p : Program} (runs : RunsAscent prefix program g states st p) (same : prefix ≡ g.prefix) (counts : Counts g states) (some : 0 < length states) where
  prefix_is : (whole runs).prefix ≡ prefix
  prefix_is = (let t = expected_told g states st prefix program in t.stays.prefix ∙ t.same)

  pub has_start : HasStart g states st p (ascent_module prefix program g states st) (own_names g states st prefix program) (function runs same counts) (variant runs)
  has_start =
      let made = ascent_made g states st prefix program in
      let fs = (whole runs).functions in
      let code = start_code g states st prefix program in
      record {
        number = length fs;
        parses = made.parses;
        params = made.params;
        maker = whole runs;
        prefix = prefix_is ∙ same;
        first_named = ap (λ (digits : List ℕ). number_in (codes "state" ++ digits) (whole runs).names) (sym (decimal_digit 0 (omega arith))) ∙ state_numbered runs same counts 0 some;
        tagged = start_variant runs;
        closure = closure_there runs;
        there = ap (λ (l : List Function). slice_get l (length fs)) (runs.functions ∙ made.functions) ∙ finished_there (fs ++ Some code ∷ []) (length fs) code (get_end fs [] (Some code));
      }
