-- The driver over a module of table-driven code: its question for a goto is answered by the tables.
use Rattle.std.proofs.Common.{length, codes, ◌≡◌, ℕ, suc, List, [], Option, Some, pos, refl, ap, sym, ◌∙◌}
use Rattle.std.specs.Prelude.{slice_get}
use Rattle.lp_form.specs.declared.part.Part.TheVariants as part
use Rattle.lp_repr.specs.ValidTables.{IsValidTables}
use Rattle.lp_repr.specs.declared.lr1.Lr1State.{Lr1State}
use Rattle.lp_repr.specs.declared.repr.Grammar.{Grammar}
use Rattle.lp_build.specs.Built.{over}
use Rattle.lp_driver.specs.Questions.{Says}
use Rattle.lp_machine.specs.Lookup.{goto_at}
use Rattle.lp_maker.specs.declared.methods.Methods.{Methods}
use Rattle.lp_maker.specs.Making.{Making}
use Rattle.lp_maker.specs.Texts.{state_type_of}
use Rattle.lp_bodies.specs.Tables as bodies
use Rattle.lp_table.specs.Starts.{Start}
use Rattle.lp_table.specs.BuiltTable.{table_items}
use Rattle.lp_table.specs.TableLines.{goto_function}
use Rattle.lp_turns.specs.declared.runner.Runner.{Runner}
use Rattle.lp_turns.specs.DriverCall.{of_state_at, with_calls}
use Rattle.lp_view.specs.PartLists.{Form}
use Rattle.lp_run.specs.Entered.{module_made}
use Rattle.lp_run.specs.Functions.{function_made}
use Rattle.lp_run.specs.ParseMethod.{By_driver}
use Rattle.lp_question_laws.proofs.Gotos.Goto.{Counts, HasGoto, goto_asked}
use Rattle.lp_question_laws.proofs.Gotos.LinkModule.{complete, RowMade, row_made, module_is_made, row_function, goto_hands_on}
use Rattle.lp_bodies.specs.MachineMethods.{methods_of}
use Rattle.lp_question_laws.proofs.Gotos.LinkTable.{goto_declared, items_driven, machine_typed}

pub goto_made : (m : Making) (g : Grammar) (states : List Lr1State) → (function_made m (goto_function g states)).function ≡ bodies.goto_function (goto_function g states)
unfolding function_made goto_function
goto_made m g states = refl

-- the items of the built module
abbrev pub built_items : Grammar → List Lr1State → Start → Form
built_items g states st = over part.TableItems [] (table_items g states st)

has_goto : (prefix : List ℕ) (program : Form) (g : Grammar) (states : List Lr1State) (st : Start) (d : Runner) (fields : List (Option ℕ)) →
    (module_made prefix program (built_items g states st)).parse ≡ By_driver d.methods fields →
    d.asked.program.functions ≡ (module_made prefix program (built_items g states st)).functions →
    HasGoto g states d
has_goto prefix program g states st d fields parses runs =
    let made = module_made prefix program (built_items g states st) in
    let d' = items_driven g states st in
    let is = module_is_made prefix program (built_items g states st) d' in
    let r : RowMade prefix (complete prefix program (built_items g states st)) (codes "goto") (goto_function g states) = row_made prefix program (built_items g states st) (goto_function g states) (codes "goto") [] (goto_declared g states st) in
    let last = complete prefix program (built_items g states st) in
    let methods = methods_of d'.machine is.names (length is.fields) last in
    let same : methods ≡ d.methods = (let e : By_driver methods is.fields ≡ By_driver d.methods fields = sym is.parses ∙ parses in cc) in
    record {
      function = r.number;
      made = ap (λ fs. slice_get fs r.number) runs ∙ row_function prefix made last d'.machine (goto_function g states) (codes "goto") is r ∙ ap (λ f. Some f) (goto_made r.maker g states);
      method = ap (λ fs. slice_get fs d.methods.goto) runs ∙ ap (λ (m : Methods). slice_get made.functions m.goto) (sym same) ∙ goto_hands_on prefix made last d'.machine (goto_function g states) is r;
      states_typed = ap (λ (m : Methods). m.state_type) (sym same) ∙ ap state_type_of (machine_typed g states st);
    }

-- a run of the module that was built of valid tables: the driver asks for the goto of a state on a nonterminal that
-- the tables have, and is told it after two steps
pub goto_answered : (prefix : List ℕ) (program : Form) (g : Grammar) (start : ℕ) (states : List Lr1State) (st : Start) (d : Runner) (fields : List (Option ℕ)) →
    IsValidTables g start states → Counts g states →
    (module_made prefix program (built_items g states st)).parse ≡ By_driver d.methods fields →
    d.asked.program.functions ≡ (module_made prefix program (built_items g states st)).functions →
    (s n t left : ℕ) → goto_at states s n ≡ Some t → d.left ≡ suc (suc left) →
    of_state_at d.methods.goto (pos s) n d ≡ Says (pos t) (with_calls d d.calls left)
goto_answered prefix program g start states st d fields valid counts parses runs s n t left e steps =
    goto_asked g start states d n s t left valid counts (has_goto prefix program g states st d fields parses runs) e steps
