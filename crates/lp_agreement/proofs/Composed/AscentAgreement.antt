-- What is told with some cost of moves is told with a greater one, and with the square of a program's weight.
use Rattle.std.proofs.Common.{◌≡◌, ℕ, ◌+◌, ◌*◌, ◌<◌, ◌≤◌, List, length, Some, slice_get, arith}
use Rattle.std.proofs.Math.Nat.{mul-le-mul_right}
use Rattle.std.proofs.lemmas.Option.{slice_get_within}
use Rattle.lp_repr.specs.declared.lr1.Lr1State.{Lr1State}
use Rattle.lp_repr.specs.declared.lr1.StartStates.{StartStates}
use Rattle.lp_repr.specs.declared.repr.Grammar.{Grammar}
use Rattle.lp_repr.specs.declared.repr.LrCodeGeneration.TheVariants.{RecursiveAscent}
use Rattle.lp_repr.specs.declared.repr.NonterminalString.{NonterminalString}
use Rattle.lp_repr.specs.declared.values.RunItem.{RunItem}
use Rattle.lp_driver.specs.declared.answers.Expecting.{Expecting}
use Rattle.lp_view.specs.PartLists.{Form}
use Rattle.lp_driver.specs.declared.answers.Expecting.TheVariants.{Trial}
use Rattle.lp_driver.specs.Values.{Text}
use Rattle.lp_tree.specs.declared.tree.Program.{Program}
use Rattle.lp_view.specs.Weights.{weight}
use Rattle.lp_write.specs.declared.rust.Options.{Options}
use Rattle.lp_assembly.specs.Built.{IsBuilt}
use Rattle.lp_fitting.specs.Fitting.{IsFitting}
use Rattle.lp_emitted.specs.Emittable.{IsEmittable}
use Rattle.lp_table.specs.Starts.{start_for}
use Rattle.lp_run.specs.ProgramRun.{Finish, NoStart, ParameterCount, Ended, Spent, Stuck}
use Rattle.lp_agrees.specs.Agrees.{Agrees, Told}
use Rattle.lp_agrees.specs.Emission.{EmissionAgrees, IsAsPrinted}
use Rattle.lp_agreement.proofs.Composed.Agreement.{AreApart, IsTold, agrees_entered, others, prefix_wordy, valid_at}
use Rattle.lp_agreement.proofs.Composed.AscentModules.{ascent_form}
use Rattle.lp_agreement.proofs.Composed.Entering.{ascent_enters}
use Rattle.lp_agreement.proofs.Composed.Parameters.{ArePlain, ascent_parameters_counted}
use Rattle.lp_agreement.proofs.Composed.ProgramWeights.{ascent_weight}
use Rattle.lp_agreement.proofs.Composed.TwoStates.{two_states}
use Rattle.lp_agreement.proofs.Composed.Weights.{steps_of_actions}

-- what is told with a cost of moves is told with a greater one
pub told_more : (g : Grammar) (states : List Lr1State) (expecting : Expecting) (items : List RunItem) (params : List Text) (failing : List ℕ) (most more budget : ℕ) (finish : Finish) → most ≤ more
    → Told g states expecting items params failing most budget finish → Told g states expecting items params failing more budget finish
told_more g states expecting items params failing most more budget (Ended e calls steps) le told = told
told_more g states expecting items params failing most more budget (Spent calls steps) le told =
    (told.0, told.1, λ k e over. (let less : budget < most * (k + 1) = told.2 k e over in let m : most * (k + 1) ≤ more * (k + 1) = mul-le-mul_right (k + 1) le in omega (arith, less, m)))
told_more g states expecting items params failing most more budget NoStart le told = absurd told
told_more g states expecting items params failing most more budget ParameterCount le told = absurd told
told_more g states expecting items params failing most more budget (Stuck steps) le told = absurd told

-- a cost of moves that is little beside the square of what a program weighs at least
abbrev pub IsLittle : Grammar → ℕ → Type 0
IsLittle g most = most ≤ 33 * (33 + steps_of_actions g.action_fn_defns)

little_fits : (most steps w : ℕ) → most ≤ 33 * (33 + steps) → 33 + steps ≤ w → most ≤ w * w
little_fits most steps w little heavy =
    let m : 33 * w ≤ w * w = mul-le-mul_right w (omega (arith, heavy)) in
    omega (arith, little, heavy, m)

-- what is told with a cost that is little is told with the square of what a program weighs
pub told_heavy : (g : Grammar) (built : Program) (list : StartStates) (form : Form) (most heavy : ℕ) → IsLittle g most → 33 + steps_of_actions g.action_fn_defns ≤ heavy → IsTold g built list form most → IsTold g built list form (heavy * heavy)
told_heavy g built list form most heavy little weighs told items params failing budget enough known finish run =
    told_more g list.states Trial items params failing most (heavy * heavy) budget finish (little_fits most (steps_of_actions g.action_fn_defns) heavy little weighs) (told items params failing budget enough known finish run)
