-- The driver over a module of table-driven code: what a reduction would do is told as it was printed.
use Rattle.std.proofs.Common.{◌≡◌, ℕ, suc, ◌≤◌, ◌<◌, List, [], ◌∷◌, length, codes, Option, Some, pos, ap, sym, ◌∙◌, arith}
use Rattle.std.proofs.lemmas.List.{length-map}
use Rattle.std.proofs.lemmas.Option.{slice_get_within}
use Rattle.lp_table.specs.MachineLines.{reduced_of}
use Rattle.std.specs.Prelude.{slice_get}
use Rattle.std.specs.Option.{option_map, option_and_then}
use Rattle.lp_core.specs.declared.expr.Function.{Function}
use Rattle.lp_core.specs.declared.value.StateType.{StateType}
use Rattle.lp_core.specs.Datum.{Unset}
use Rattle.lp_core.specs.Val as val
use Rattle.lp_core.specs.Val.{Val}
use Rattle.lp_core.specs.Numbers as core
use Rattle.lp_core.specs.Numbers.{typed}
use Rattle.lp_core.specs.Store.{Program, UserCall}
use Rattle.lp_core.specs.Flow.{Flow, Gives, spend, leave}
use Rattle.lp_core.specs.Eval.{run, run_call, enter}
use Rattle.lp_core.proofs.Same.{run_end}
use Rattle.lp_driver.specs.declared.answers.Simulated.{Simulated}
use Rattle.lp_driver.specs.Questions.{Said, Says}
use Rattle.lp_repr.specs.declared.lr1.Lr1State.{Lr1State}
use Rattle.lp_repr.specs.declared.repr.Grammar.{Grammar}
use Rattle.lp_repr.specs.Numbering.{productions_of}
use Rattle.lp_tree.specs.declared.tree.Reduced.{Reduced}
use Rattle.lp_maker.specs.declared.methods.Methods.{Methods}
use Rattle.lp_maker.specs.Constructs.{call_function}
use Rattle.lp_maker.specs.Making.{Making}
use Rattle.lp_maker.specs.Texts.{state_type_of}
use Rattle.lp_bodies.specs.Actions.{takes}
use Rattle.lp_bodies.specs.Source.{function}
use Rattle.lp_bodies.specs.MachineMethods.{methods_of}
use Rattle.lp_bodies.specs.Trials.{simulate_function}
use Rattle.lp_table.specs.Starts.{Start, state_text}
use Rattle.lp_turns.specs.declared.runner.Runner.{Runner}
use Rattle.lp_turns.specs.Readings.{simulated_of}
use Rattle.lp_turns.specs.DriverCall as turns
use Rattle.lp_turns.specs.DriverCall.{simulate, with_calls, begin, on_said, says, or_stuck, asks}
use Rattle.lp_view.specs.PartLists.{Form}
use Rattle.lp_run.specs.Entered.{module_made}
use Rattle.lp_run.specs.Functions.{function_made}
use Rattle.lp_run.specs.ParseMethod.{By_driver}
use Rattle.lp_question_laws.proofs.Gotos.GotoAnswered.{built_items}
use Rattle.lp_question_laws.proofs.Gotos.LinkModule.{complete, RowMade, row_made, module_is_made, row_function, simulate_hands_on}
use Rattle.lp_question_laws.proofs.Gotos.LinkTable.{simulation_declared, items_driven, machine_typed}
use Rattle.lp_question_laws.proofs.Gotos.GotoCode.{IsState}
use Rattle.lp_question_laws.proofs.Gotos.GotoRun.{number, at}
use Rattle.lp_question_laws.proofs.Gotos.LinkHeaders.{IsWordy}
use Rattle.lp_question_laws.proofs.Gotos.Simulate.{reductions, AllSmall, simulate_called, answer_val, answer_read, told}
use Rattle.lp_table.specs.MachineLines.{simulation}
use Rattle.lp_question_laws.proofs.Gotos.StateTypes.{numbers_of}

-- a method that hands its one argument on
abbrev pub handing_one : ℕ → Function
handing_one f = function 1 0 (call_function f (takes 1))

one_handed : (p : Program) (kind : StateType) (m f left : ℕ) (i : ℕ) (v : Val) (calls : List UserCall) → slice_get p.functions m ≡ Some (handing_one f) →
    run_call p f (number kind i ∷ []) (at p kind (val.Plain Unset ∷ []) [] 0 calls (suc left)) ≡ Gives v (at p kind (val.Plain Unset ∷ []) [] 0 calls left) →
    run_call p m (number kind i ∷ []) (at p kind [] [] 0 calls (suc (suc left))) ≡ Gives v (at p kind [] [] 0 calls left)
one_handed p kind m f left i v calls there h =
    ap (λ o. spend (at p kind [] [] 0 calls (suc (suc left))) (enter p o (run p) (number kind i ∷ []))) there
    ∙ ap (leave [] 0) (run_end p f (number kind i ∷ []) (at p kind (val.Plain Unset ∷ []) [] 0 calls (suc left)) ∙ h)

-- a program has the printed simulation, and its method hands on to it
pub record HasSimulation (g : Grammar) (states : List Lr1State) (s : Start) (d : Runner) : Type 0 where
  pub function : ℕ
  pub made : slice_get d.asked.program.functions function ≡ Some (simulate_function g.prefix (simulation g states s))
  pub method : slice_get d.asked.program.functions d.methods.simulate_reduce ≡ Some (handing_one function)
  pub states_typed : d.methods.state_type ≡ state_type_of (state_text g states)

pub simulate_asked : (g : Grammar) (states : List Lr1State) (s : Start) (d : Runner) (i left : ℕ) (r : Option Reduced) → IsWordy g.prefix → AllSmall (reductions g states s) →
    length states ≤ 2147483647 → length (productions_of g) ≤ 2147483647 → HasSimulation g states s d → slice_get (reductions g states s) i ≡ Some r → d.left ≡ suc (suc left) →
    simulate (pos i) d ≡ Says (told r) (with_calls d d.calls left)
simulate_asked g states s d i left r w small fit few has is steps =
    let p = d.asked.program in
    let types = numbers_of (length states) (length (productions_of g)) fit few in
    let count : length (reductions g states s) ≡ length (productions_of g) = length-map (productions_of g) (reduced_of g s) in
    let lt : i < length (reductions g states s) = slice_get_within (reductions g states s) i r is in
    let kind = types.kind in
    let fits : IsState kind i = types.rules i (omega arith) in
    let inner = simulate_called g states s p kind has.function i left r w small (omega arith) has.made is (val.Plain Unset ∷ []) [] 0 d.calls in
    let said : Flow → Said Simulated Runner = λ fl. on_said (on_said (turns.answer d fl) (λ r d'. Says r.0 d')) (λ v d'. says (simulated_of v) d') in
    ap (λ o. or_stuck (option_and_then (λ kind. typed kind (pos i)) o) d (λ v. asks simulated_of d.methods.simulate_reduce (v ∷ []) d)) (has.states_typed ∙ types.read)
    ∙ ap (λ o. or_stuck (option_map (core.number kind) o) d (λ v. asks simulated_of d.methods.simulate_reduce (v ∷ []) d)) fits.fits
    ∙ ap (λ k. said (run_call p d.methods.simulate_reduce (number kind i ∷ []) (begin [] d.calls k))) steps
    ∙ ap said (one_handed p kind d.methods.simulate_reduce has.function left i (answer_val r) d.calls has.method inner)
    ∙ ap (λ o. says o (with_calls d d.calls left)) (answer_read r)

simulation_made : (m : Making) (g : Grammar) (states : List Lr1State) (s : Start) → m.prefix ≡ g.prefix → (function_made m (simulation g states s)).function ≡ simulate_function g.prefix (simulation g states s)
unfolding function_made simulation
simulation_made m g states s e = ap (λ t. simulate_function t (simulation g states s)) e

pub has_simulation : (prefix : List ℕ) (program : Form) (g : Grammar) (states : List Lr1State) (s : Start) (d : Runner) (fields : List (Option ℕ)) →
    (module_made prefix program (built_items g states s)).parse ≡ By_driver d.methods fields →
    d.asked.program.functions ≡ (module_made prefix program (built_items g states s)).functions →
    prefix ≡ g.prefix → HasSimulation g states s d
has_simulation prefix program g states s d fields parses runs is_prefix =
    let items = built_items g states s in
    let d' = items_driven g states s in
    let is = module_is_made prefix program items d' in
    let last = complete prefix program items in
    let r : RowMade prefix last (codes "simulate_reduce") (simulation g states s) = row_made prefix program items (simulation g states s) (codes "simulate_reduce") [] (simulation_declared g states s) in
    let methods = methods_of d'.machine is.names (length is.fields) last in
    let same : methods ≡ d.methods = (let e : By_driver methods is.fields ≡ By_driver d.methods fields = sym is.parses ∙ parses in cc) in
    record {
      function = r.number;
      made = ap (λ fs. slice_get fs r.number) runs ∙ row_function prefix (module_made prefix program items) last d'.machine (simulation g states s) (codes "simulate_reduce") is r ∙ ap (λ f. Some f) (simulation_made r.maker g states s (r.same ∙ is_prefix));
      method = ap (λ fs. slice_get fs d.methods.simulate_reduce) runs ∙ ap (λ (m : Methods). slice_get (module_made prefix program items).functions m.simulate_reduce) (sym same) ∙ simulate_hands_on prefix (module_made prefix program items) last d'.machine (simulation g states s) is r;
      states_typed = ap (λ (m : Methods). m.state_type) (sym same) ∙ ap state_type_of (machine_typed g states s);
    }

-- a run of the built module: the driver asks what the reduction of a production would do, and is told it after two steps
pub simulate_answered : (prefix : List ℕ) (program : Form) (g : Grammar) (states : List Lr1State) (s : Start) (d : Runner) (fields : List (Option ℕ)) → prefix ≡ g.prefix → IsWordy g.prefix → AllSmall (reductions g states s) →
    length states ≤ 2147483647 → length (productions_of g) ≤ 2147483647 →
    (module_made prefix program (built_items g states s)).parse ≡ By_driver d.methods fields →
    d.asked.program.functions ≡ (module_made prefix program (built_items g states s)).functions →
    (i left : ℕ) (r : Option Reduced) → slice_get (reductions g states s) i ≡ Some r → d.left ≡ suc (suc left) → simulate (pos i) d ≡ Says (told r) (with_calls d d.calls left)
simulate_answered prefix program g states s d fields same w small few productions parses runs i left r is steps =
    simulate_asked g states s d i left r w small few productions (has_simulation prefix program g states s d fields parses runs same) is steps
