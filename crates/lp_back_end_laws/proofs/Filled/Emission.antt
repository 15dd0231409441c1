-- Table-driven code obeys the law of a back end.
use Rattle.std.proofs.Common.{◌*◌, refl, sym, ap, ◌∙◌, subst}
use Rattle.lp_repr.specs.declared.repr.LrCodeGeneration.{LrCodeGeneration}
use Rattle.lp_driver.specs.declared.answers.Expecting.TheVariants.{Trial}
use Rattle.lp_run.specs.ParseMethod.{parameters_of}
use Rattle.lp_table.specs.Starts.{start_for}
use Rattle.lp_view.specs.PartLists.{Form}
use Rattle.lp_agrees.specs.Emission.{IsByTables}
use Rattle.lp_question_laws.specs.Reductions.Premises.{reduction_cost}
use Rattle.lp_question_laws.specs.Actions.Nesting.{action_cost}
use Rattle.lp_agreement.proofs.Composed.Agreement.{IsTold, tables_counted, tables_told}
use Rattle.lp_agreement.proofs.Composed.Modules.{items_of_tables}
use Rattle.lp_back_end_laws.specs.Filled.BackEndLaw.{RunsByTables}
use Rattle.lp_back_end_laws.proofs.Filled.Actions.{has_forms}
use Rattle.lp_back_end_laws.proofs.Filled.Costs.{reduction_is_cost}
use Rattle.lp_back_end_laws.proofs.Filled.Production.{production_runs}
use Rattle.lp_back_end_laws.proofs.Filled.Whole.{answers, is_plain, keys, runs}

pub tables_law : (c : LrCodeGeneration) → IsByTables c → RunsByTables c
tables_law c by_code g states built is looked may is_built fits i names list at has =
    let by : IsByTables g.algorithm.codegen = subst IsByTables (sym is) by_code in
    let memory = looked.memory in
    let same = items_of_tables c g list.states (start_for g names.0 names.1) by_code in
    record {
      counts = ap (λ (form : Form). (parameters_of g.prefix form).next) same ∙ tables_counted g states built may is_built fits by (reduction_cost g (action_cost g)) (reduction_is_cost g) i names list at has;
      told = λ heavy weighs.
          subst (λ (form : Form). IsTold g built list form (heavy * heavy)) (sym same)
          (tables_told g states built may is_built fits by (reduction_cost g (action_cost g)) (reduction_is_cost g) i names list at has
          (λ items params failing enough tables entries all.
          answers g states built by memory may is_built fits i names list at has items params failing enough tables entries all
          (production_runs (runs g states built by memory may is_built fits i names list at has items params failing enough tables entries all) refl (has_forms g states built is_built) refl memory.count may.valid
          (is_plain g states built by memory may is_built fits i names list at has) (keys g states built by memory may is_built fits i names list at has) Trial params refl enough failing refl)) heavy weighs);
    }
