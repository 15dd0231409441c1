-- A run of a program by a public name is one of the module that the name enters; over the built module it is one by the driver.
use Rattle.std.proofs.Common.{◌≡◌, ℕ, ◌==◌, Bool, true, List, length, map, Option, Some, refl, ap, subst}
use Rattle.lp_repr.specs.declared.lr1.Lr1State.{Lr1State}
use Rattle.lp_repr.specs.declared.repr.Grammar.{Grammar}
use Rattle.lp_repr.specs.declared.values.RunItem.{RunItem}
use Rattle.lp_driver.specs.Values.{Text}
use Rattle.lp_core.specs.declared.expr.Table.{Table}
use Rattle.lp_tree.specs.declared.tree.Program.{Program}
use Rattle.lp_view.specs.PartLists.{Form}
use Rattle.lp_maker.specs.declared.methods.Methods.{Methods}
use Rattle.lp_maker.specs.Making.{entries_of}
use Rattle.lp_bodies.specs.MachineMethods.{methods_of}
use Rattle.lp_table.specs.Starts.{Start}
use Rattle.lp_turns.specs.Asking.{Asking}
use Rattle.lp_run.specs.Entered.{module_in, module_made, parameter_count}
use Rattle.lp_run.specs.Module.{Module, program_on}
use Rattle.lp_run.specs.Named.{named}
use Rattle.lp_run.specs.ParseMethod.{Parse, By_driver}
use Rattle.lp_run.specs.ProgramRun.{Finish, parsed, by_driver, module_run}
use Rattle.lp_run.specs.RunTold.{RunsModule, RunsCounted, RunsItems, RunsProgram}
use Rattle.lp_question_laws.proofs.Gotos.GotoAnswered.{built_items}
use Rattle.lp_question_laws.proofs.Gotos.LinkModule.{complete, ModuleMade, module_is_made}
use Rattle.lp_question_laws.proofs.Gotos.LinkTable.{items_driven}
use Rattle.lp_question_laws.proofs.Tables.Built.{RunsBuilt}

module _ (items : List RunItem) (params : List Text) (failing : List ℕ) (budget : ℕ) (finish : Finish) where
  counted : (b : Bool) (m : Module) → b ≡ true → RunsCounted b m items params failing budget finish → RunsModule m items params failing budget finish
  counted b m is runs = subst (λ (b : Bool). RunsCounted b m items params failing budget finish) is runs

  -- a run by a name that enters these items, with a value for each parameter, is one of their module
  pub module_runs : (program : Program) (name : Text) (form : Form) → named program name ≡ Some form → (parameter_count program form == length params) ≡ true → RunsProgram program name items params failing budget finish
      → RunsModule (module_in program form) items params failing budget finish
  module_runs program name form enters enough runs =
      counted (parameter_count program form == length params) (module_in program form) enough (subst (λ (o : Option Form). RunsItems program o items params failing budget finish) enters runs)

-- ---- the built module
module _ (prefix : List ℕ) (program : Form) (g : Grammar) (states : List Lr1State) (st : Start) where
  abbrev pub built_module : Module
  built_module = module_made prefix program (built_items g states st)

  abbrev pub is_built : ModuleMade built_module (complete prefix program (built_items g states st)) (items_driven g states st).machine
  is_built = module_is_made prefix program (built_items g states st) (items_driven g states st)

  -- it drives these methods, with these parameters as fields
  pub own_methods : Methods
  own_methods = methods_of (items_driven g states st).machine is_built.names (length is_built.fields) (complete prefix program (built_items g states st))

  pub own_fields : List (Option ℕ)
  own_fields = is_built.fields

  pub drives : built_module.parse ≡ By_driver own_methods own_fields
  unfolding own_methods own_fields
  drives = is_built.parses

  module _ (tables : List Table) (items : List RunItem) (params : List Text) (failing : List ℕ) where
    -- what its driver asks
    abbrev pub asked_on : Asking
    asked_on = record { program = program_on built_module tables items params failing; fields = own_fields }

    unfoldable pub runs_built : map entries_of tables ≡ built_module.tables → RunsBuilt prefix program g states st asked_on own_methods
    runs_built holds = record { fields = own_fields; parses = drives; functions = refl; tables = holds; texts = refl; located = refl }

    -- whose fields are those that are asked
    pub fields_built : (holds : map entries_of tables ≡ built_module.tables) → asked_on.fields ≡ (runs_built holds).fields
    unfolding runs_built
    fields_built holds = refl

    -- a run of it is one by the driver
    pub run_by_driver : (budget : ℕ) → module_run built_module tables items params failing budget ≡ by_driver asked_on.program own_methods own_fields built_module.closure budget budget
    run_by_driver budget = ap (λ (p : Parse). parsed p built_module.params built_module.closure (program_on built_module tables items params failing) budget) drives
