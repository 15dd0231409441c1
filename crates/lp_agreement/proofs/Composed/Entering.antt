-- A program that was read of a built one: by a name it enters items whose code is that of the built module.
use Rattle.std.proofs.Common.{◌≡◌, ℕ, ◌<◌, List, map, option_map, Option, Some, None, slice_get, refl, sym, ap, ◌∙◌, subst}
use Rattle.std.proofs.lemmas.Option.{same_Some}
use Rattle.lp_repr.specs.declared.lr1.StartStates.{StartStates}
use Rattle.lp_repr.specs.declared.repr.Grammar.{Grammar}
use Rattle.lp_repr.specs.declared.repr.LrCodeGeneration.TheVariants.{RecursiveAscent}
use Rattle.lp_repr.specs.declared.repr.NonterminalString.{NonterminalString}
use Rattle.lp_tree.specs.ProgramTree.{program_items}
use Rattle.lp_tree.specs.declared.tree.Program.{Program}
use Rattle.lp_view.specs.PartLists.{Form}
use Rattle.lp_write.specs.declared.rust.Options.{Options}
use Rattle.lp_agrees.specs.Emission.{IsAsPrinted, IsByTables}
use Rattle.lp_assembly.specs.Built.{IsBuilt}
use Rattle.lp_maker.specs.Slots.{Names}
use Rattle.lp_run.specs.Entered.{module_in, module_made, parameter_count}
use Rattle.lp_run.specs.Module.{Module}
use Rattle.lp_run.specs.Named.{named, items_under}
use Rattle.lp_run.specs.ParseMethod.{parameters_of}
use Rattle.lp_table.specs.Starts.{start_for}
use Rattle.lp_question_laws.proofs.Gotos.GotoAnswered.{built_items}
use Rattle.lp_agreement.proofs.Composed.AscentModules.{ascent_form}
use Rattle.lp_agreement.proofs.Composed.CodedPrograms.{coded_named, module_coded}
use Rattle.lp_agreement.proofs.Composed.Modules.{IsOther, items_by, items_of_ascent, items_of_tables}
use Rattle.lp_agreement.proofs.Composed.SeenMade.{module_seen, parameters_of_seen}
use Rattle.lp_agreement.proofs.Composed.SeenModules.{under_seen}
use Rattle.lp_agreement.proofs.Composed.Settled.{coded, read_seen, seen}

-- ---- forms that are seen alike
-- what is seen of a form that is there
pub record SeenAs (o : Option Form) (x : Form) : Type 0 where
  pub form : Form
  pub is : o ≡ Some form
  pub alike : seen form ≡ x

some_seen : (o : Option Form) (x : Form) → option_map seen o ≡ Some x → SeenAs o x
some_seen None x e = cc
some_seen (Some f) x e = record { form = f; is = refl; alike = same_Some (seen f) x e }

-- programs and items that are seen alike have the same code
pub module_alike : (prefix : List ℕ) (program other f x : Form) → seen program ≡ seen other → seen f ≡ seen x → module_made prefix program f ≡ module_made prefix other x
module_alike prefix program other f x same alike =
    sym (module_seen prefix program f) ∙ ap (λ (p : Form). module_made prefix p (seen f)) same ∙ ap (module_made prefix (seen other)) alike ∙ module_seen prefix other x

pub parameters_alike : (prefix : List ℕ) (f x : Form) → seen f ≡ seen x → parameters_of prefix f ≡ parameters_of prefix x
parameters_alike prefix f x alike = sym (parameters_of_seen prefix f) ∙ ap (parameters_of prefix) alike ∙ parameters_of_seen prefix x

-- ---- what is read
-- a name enters items in a program, and their code is this, for so many parameters
pub record EntersCode (program : Program) (name : List ℕ) (code : Module) (count : ℕ) : Type 0 where
  pub items : Form
  pub enters : named program name ≡ Some items
  pub is : module_in program items ≡ code
  pub counts : parameter_count program items ≡ count

module _ (g : Grammar) (states : List StartStates) (options : Options) (built read : Program) (is_built : IsBuilt g states built) (printed : IsAsPrinted options built read) (i : ℕ) (names : NonterminalString × NonterminalString) (list : StartStates)
    (at : slice_get g.start_nonterminals.entries i ≡ Some names) (has : slice_get states i ≡ Some list) (first : (j : ℕ) → j < i → IsOther names.0.0 (slice_get g.start_nonterminals.entries j)) where
  -- code of these items was entered under the start's name: it is that of the built module
  abbrev pub EntersItems : Form → Type 0
  EntersItems items = EntersCode read names.0.0 (module_made g.prefix (program_items built) items) (parameters_of g.prefix items).next

  -- the start's items are entered, by the code that is asked for
  pub read_enters_items : EntersItems (items_by g.algorithm.codegen g list.states (start_for g names.0 names.1))
  read_enters_items =
      let whitespace = options.whitespace in
      let x : Form = items_by g.algorithm.codegen g list.states (start_for g names.0 names.1) in
      let other = map (coded whitespace) (program_items built) in
      let same : seen (program_items read) ≡ seen other = read_seen whitespace built read printed.1 in
      let prefix : read.prefix ≡ g.prefix = printed.0 ∙ is_built.prefix in
      let found : SeenAs (named read names.0.0) (seen x) = some_seen (named read names.0.0) (seen x)
      (sym (under_seen names.0.0 (program_items read)) ∙ ap (items_under names.0.0) same ∙ under_seen names.0.0 other ∙ ap (option_map seen) (coded_named whitespace g states built is_built names.0.0 i names list at has refl first)) in
      record {
        items = found.form;
        enters = found.is;
        is = ap (λ (p : List ℕ). module_made p (program_items read) found.form) prefix
            ∙ module_alike g.prefix (program_items read) other found.form x same found.alike
            ∙ module_coded whitespace g states built is_built g.prefix x;
        counts = ap (λ (p : List ℕ). (parameters_of p found.form).next) prefix ∙ ap (λ (n : Names). n.next) (parameters_alike g.prefix found.form x found.alike);
      }

  -- by tables, the built module is entered
  pub read_enters : IsByTables g.algorithm.codegen → EntersItems (built_items g list.states (start_for g names.0 names.1))
  read_enters by = subst EntersItems (items_of_tables g.algorithm.codegen g list.states (start_for g names.0 names.1) by) read_enters_items

  -- and so it is by recursive ascent
  pub ascent_enters : g.algorithm.codegen ≡ RecursiveAscent → EntersItems (ascent_form g list.states (start_for g names.0 names.1))
  ascent_enters is = subst EntersItems (items_of_ascent g.algorithm.codegen g list.states (start_for g names.0 names.1) is) read_enters_items
