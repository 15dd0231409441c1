-- The action of each production of a valid grammar has a function, a call of which does what the tables' action does.
use Rattle.std.proofs.Common.{◌≡◌, ℕ, ◌<◌, ◌^◌, true, Bool, List, length, map, Some, ap, sym, subst}
use Rattle.std.specs.Prelude.{slice_get}
use Rattle.lp_repr.specs.Numbering.{productions_of}
use Rattle.lp_repr.specs.declared.lr1.Lr1State.{Lr1State}
use Rattle.lp_repr.specs.declared.repr.ActionFnDefn.{ActionFnDefn}
use Rattle.lp_repr.specs.declared.repr.Grammar.{Grammar}
use Rattle.lp_repr.specs.declared.repr.Production.{Production}
use Rattle.lp_driver.specs.Values.{Text}
use Rattle.lp_driver.specs.declared.answers.Expecting.{Expecting}
use Rattle.lp_core.specs.Val.{Val}
use Rattle.lp_machine.specs.GrammarTables.{grammar_tables}
use Rattle.lp_table.specs.Starts.{Start, fallible_or_not, is_fallible}
use Rattle.lp_view.specs.PartLists.{Form}
use Rattle.lp_maker.specs.declared.methods.Methods.{Methods}
use Rattle.lp_run.specs.Entered.{module_made}
use Rattle.lp_turns.specs.Asking.{Asking}
use Rattle.lp_valid.specs.ActionRules.{kind_takes}
use Rattle.lp_valid.specs.ValidGrammar.{IsValidGrammar}
use Rattle.lp_question_laws.proofs.Gotos.GotoAnswered.{built_items}
use Rattle.lp_question_laws.specs.Tables.Acts.{Acts, arguments}
use Rattle.lp_question_laws.proofs.Tables.Built.{RunsBuilt}
use Rattle.lp_question_laws.specs.Actions.Forms.{HasForms}
use Rattle.lp_question_laws.specs.Actions.Nesting.{action_cost}
use Rattle.lp_question_laws.proofs.Actions.Acted.{built_acts}
use Rattle.lp_question_laws.proofs.Actions.Depth.{IsPlainGrammar}
use Rattle.lp_question_laws.proofs.Actions.Held.{are_held, held_by}
use Rattle.lp_question_laws.proofs.Actions.Rules.{production_taken}
use Rattle.lp_question_laws.specs.Reductions.Premises.{ActionRuns}
use Rattle.lp_question_laws.proofs.Reductions.Field.{params}
use Rattle.lp_question_laws.proofs.Reductions.Linked.{last, p}
use Rattle.lp_question_laws.proofs.Reductions.Texts.{AllKeys, names_of}
use Rattle.lp_back_end_laws.proofs.Filled.Parameters.{fields_held}

module _ {prefix : List ℕ} {program : Form} {g : Grammar} {states : List Lr1State} {st : Start} {asked : Asking} {methods : Methods} (runs : RunsBuilt prefix program g states st asked methods) (texts : asked.program.texts ≡ (module_made prefix program (built_items g states st)).texts) (forms : HasForms g program) (same : prefix ≡ g.prefix)
    (small : length g.action_fn_defns < 2 ^ 64) (valid : IsValidGrammar g) (plain : IsPlainGrammar g) (keys : AllKeys g.prefix (names_of g.parameters)) (expecting : Expecting) (given : List Text) (given_so : asked.program.params ≡ given) (many : length given ≡ length g.parameters) (failing : List ℕ) (failing_so : asked.program.failing ≡ failing) where
  -- as the law of reductions asks it
  pub production_runs : (i : ℕ) (prod : Production) → slice_get (productions_of g) i ≡ Some prod → ActionRuns (p runs) (last runs) g (grammar_tables g states expecting given failing) (params runs same keys) (action_cost g) prod
  production_runs i prod at =
      let taken = production_taken g valid i prod at in
      let a : ActionFnDefn = taken.0 in
      let run = built_acts runs texts forms same small valid plain (held_by g) expecting given (are_held asked.program g given given_so many) prod.action a taken.1 in
      record {
        function = run.0;
        named = run.1;
        acts = λ triples place m so_many.
            subst (λ (vs : List Val). Acts asked.program run.0 (arguments vs triples place) (is_fallible g prod) ((grammar_tables g states expecting given failing).act prod.action triples place (length m.calls)) (action_cost g) m) (sym (fields_held runs same plain.prefix keys))
            (subst (λ (b : Bool). Acts asked.program run.0 (arguments (map (held_by g) (names_of g.parameters)) triples place) b ((grammar_tables g states expecting given failing).act prod.action triples place (length m.calls)) (action_cost g) m) (sym (ap fallible_or_not taken.1))
            (subst (λ (fs : List ℕ). Acts asked.program run.0 (arguments (map (held_by g) (names_of g.parameters)) triples place) a.fallible ((grammar_tables g states expecting given fs).act prod.action triples place (length m.calls)) (action_cost g) m) failing_so
            (run.2 triples place m (subst (λ n. kind_takes a.kind n ≡ true) (sym so_many) taken.2))));
      }
