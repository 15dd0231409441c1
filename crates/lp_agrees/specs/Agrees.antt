-- When the program of a parser agrees with the machine over the tables that it was made of.
use Rattle.std.specs.Prelude.{◌≡◌, ℕ, ◌+◌, ◌*◌, ◌<◌, List, map, length, All, Some, slice_get}
use Rattle.lp_repr.specs.declared.lr1.Lr1State.{Lr1State}
use Rattle.lp_repr.specs.declared.lr1.StartStates.{StartStates}
use Rattle.lp_repr.specs.declared.repr.Grammar.{Grammar}
use Rattle.lp_repr.specs.declared.repr.NonterminalString.{NonterminalString}
use Rattle.lp_repr.specs.declared.values.RunItem.{RunItem}
use Rattle.lp_driver.specs.declared.answers.Expecting.{Expecting}
use Rattle.lp_driver.specs.declared.answers.Expecting.TheVariants.{Trial}
use Rattle.lp_driver.specs.Values.{Text, Ending}
use Rattle.lp_core.specs.Prefix.{IsPrefix}
use Rattle.lp_core.specs.Store.{UserCall}
use Rattle.lp_machine.specs.RunEnds.{ended}
use Rattle.lp_run.specs.ProgramRun.{Finish, NoStart, ParameterCount, Ended, Spent, Stuck}
use Rattle.lp_run.specs.RunTold.{RunsProgram}
use Rattle.lp_tree.specs.declared.tree.Program.{Program}
use Rattle.lp_view.specs.Weights.{weight}
use Rattle.lp_agrees.specs.Machine.{as_user, at, MatchesOne}

module _ (g : Grammar) (states : List Lr1State) (expecting : Expecting) (items : List RunItem) (params : List Text) (failing : List ℕ) where
  -- the machine comes to this end, after these calls
  abbrev pub EndsSo : Ending → List UserCall → Type 0
  EndsSo e calls = (m : ℕ) × (ended (at g states expecting items params failing m).left ≡ Some e) × (map as_user (at g states expecting items params failing m).calls ≡ calls)

  -- after some moves its calls begin with these
  abbrev pub BeginsSo : List UserCall → Type 0
  BeginsSo calls = (m : ℕ) × IsPrefix calls (map as_user (at g states expecting items params failing m).calls)

  -- wherever it has ended the budget is less than so many steps for each move and once more
  abbrev pub IsLack : ℕ → ℕ → Type 0
  IsLack most budget = (k : ℕ) (e : Ending) → ended (at g states expecting items params failing k).left ≡ Some e → budget < most * (k + 1)

  -- a run of a program with this budget ends as the machine does, with its calls; or its budget is spent after some of them, because it was too small for the moves until the end
  abbrev pub Told : ℕ → ℕ → Finish → Type 0
  Told most budget (Ended e calls steps) = EndsSo e calls
  Told most budget (Spent calls steps) = (steps ≡ budget) × BeginsSo calls × IsLack most budget
  Told most budget NoStart = ⊥
  Told most budget ParameterCount = ⊥
  Told most budget (Stuck steps) = ⊥

-- all runs of the parser of a public name are told by the machine over these states, a move costing at most the square of the program's weight
abbrev pub Agrees : Program → Grammar → List Lr1State → Expecting → Text → Type 0
Agrees program g states expecting name =
    (items : List RunItem) (params : List Text) (failing : List ℕ) (budget : ℕ) → length params ≡ length g.parameters → All (MatchesOne g) items
    → (finish : Finish) → RunsProgram program name items params failing budget finish → Told g states expecting items params failing (weight program * weight program) budget finish

-- each public name agrees with the tables of its start
abbrev pub AllAgree : Program → Grammar → List StartStates → Type 0
AllAgree program g states =
    (i : ℕ) (names : NonterminalString × NonterminalString) (list : StartStates) → slice_get g.start_nonterminals.entries i ≡ Some names → slice_get states i ≡ Some list
    → Agrees program g list.states Trial names.0.0
