-- In a program that runs a module the action of each production has a function, a call of which does what the tables' action does.
use Rattle.std.proofs.Common.{◌≡◌, ℕ, ◌<◌, ◌^◌, true, Bool, List, ◌++◌, length, map, Some, ap, sym, subst, ◌∙◌, codes, decimal}
use Rattle.std.specs.Prelude.{slice_get}
use Rattle.lp_repr.specs.Numbering.{productions_of}
use Rattle.lp_repr.specs.declared.lr1.Lr1State.{Lr1State}
use Rattle.lp_repr.specs.declared.repr.ActionFnDefn.{ActionFnDefn}
use Rattle.lp_repr.specs.declared.repr.Grammar.{Grammar}
use Rattle.lp_repr.specs.declared.repr.Production.{Production}
use Rattle.lp_driver.specs.Values.{Text}
use Rattle.lp_driver.specs.declared.answers.Expecting.{Expecting}
use Rattle.lp_core.specs.Store.{Program}
use Rattle.lp_core.specs.Val.{Val}
use Rattle.lp_machine.specs.GrammarTables.{grammar_tables}
use Rattle.lp_table.specs.Starts.{fallible_or_not}
use Rattle.lp_view.specs.PartLists.{Form}
use Rattle.lp_maker.specs.Making.{Making, number_in}
use Rattle.lp_run.specs.Entered.{module_made}
use Rattle.lp_valid.specs.ActionRules.{kind_takes}
use Rattle.lp_valid.specs.ValidGrammar.{IsValidGrammar}
use Rattle.lp_question_laws.proofs.Gotos.LinkModule.{complete}
use Rattle.lp_question_laws.specs.Tables.Acts.{Acts, arguments}
use Rattle.lp_question_laws.specs.Actions.Forms.{HasForms}
use Rattle.lp_question_laws.specs.Actions.Nesting.{action_cost}
use Rattle.lp_question_laws.specs.Actions.Stands.{HasActions}
use Rattle.lp_question_laws.proofs.Actions.Acted.{action_acts}
use Rattle.lp_question_laws.proofs.Actions.Depth.{IsPlainGrammar}
use Rattle.lp_question_laws.proofs.Actions.Held.{are_held, held_by}
use Rattle.lp_question_laws.proofs.Actions.LinkedModule.{module_actions}
use Rattle.lp_question_laws.proofs.Actions.Rules.{production_taken}
use Rattle.lp_question_laws.specs.Reductions.Premises.{ActionRuns}
use Rattle.lp_question_laws.proofs.Reductions.Texts.{names_of}

-- what the parameters' names hold
abbrev pub given_by : Grammar → List Val
given_by g = map (held_by g) (names_of g.parameters)

module _ (p : Program) (prefix : List ℕ) (program items : Form) (g : Grammar) (functions : p.functions ≡ (module_made prefix program items).functions) (texts : p.texts ≡ (module_made prefix program items).texts) (forms : HasForms g program) (same : prefix ≡ g.prefix)
    (small : length g.action_fn_defns < 2 ^ 64) (valid : IsValidGrammar g) (plain : IsPlainGrammar g) (states : List Lr1State) (expecting : Expecting) (given : List Text) (given_so : p.params ≡ given) (many : length given ≡ length g.parameters) (failing : List ℕ) (failing_so : p.failing ≡ failing) where
  -- by the names of all that is made
  acts_by : HasActions p g (complete prefix program items).names → (maker : Making) → maker.names ≡ (complete prefix program items).names → (i : ℕ) (prod : Production) → slice_get (productions_of g) i ≡ Some prod → ActionRuns p maker g (grammar_tables g states expecting given failing) (given_by g) (action_cost g) prod
  acts_by actions maker knows i prod at =
      let taken = production_taken g valid i prod at in
      let a : ActionFnDefn = taken.0 in
      let run = action_acts p g (complete prefix program items).names actions valid plain (held_by g) states expecting given failing (are_held p g given given_so many) failing_so prod.action a taken.1 in
      record {
        function = run.0;
        named = ap (number_in (codes "super::action" ++ decimal prod.action)) knows ∙ run.1;
        acts = λ triples place m so_many.
            subst (λ (b : Bool). Acts p run.0 (arguments (given_by g) triples place) b ((grammar_tables g states expecting given failing).act prod.action triples place (length m.calls)) (action_cost g) m) (sym (ap fallible_or_not taken.1))
            (run.2 triples place m (subst (λ n. kind_takes a.kind n ≡ true) (sym so_many) taken.2));
      }

  pub acts : (maker : Making) → maker.names ≡ (complete prefix program items).names → (i : ℕ) (prod : Production) → slice_get (productions_of g) i ≡ Some prod → ActionRuns p maker g (grammar_tables g states expecting given failing) (given_by g) (action_cost g) prod
  acts = acts_by (module_actions p prefix program items g functions texts forms same small)
