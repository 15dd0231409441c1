-- Runs of the emitted parsers, told by the tables.
use Rattle.std.specs.Prelude.{◌≡◌, ℕ, ◌*◌, List, map, Some, slice_get}
use Rattle.lp_repr.specs.declared.lr1.Lr1State.{Lr1State}
use Rattle.lp_repr.specs.declared.lr1.StartStates.{StartStates}
use Rattle.lp_repr.specs.declared.repr.Grammar.{Grammar}
use Rattle.lp_repr.specs.declared.repr.NonterminalString.{NonterminalString}
use Rattle.lp_repr.specs.declared.values.RunItem.{RunItem}
use Rattle.lp_driver.specs.declared.answers.Expecting.TheVariants.{Trial}
use Rattle.lp_driver.specs.Values.{Text}
use Rattle.lp_run.specs.ProgramRun.{Finish, NoStart, ParameterCount, Ended, Spent, Stuck}
use Rattle.lp_tree.specs.declared.tree.Program.{Program}
use Rattle.lp_view.specs.Weights.{weight}
use Rattle.lp_agrees.specs.Agrees.{Told}

-- the value of each parameter: its name
abbrev pub values_of : Grammar → List Text
values_of g = map (λ p. p.name) g.parameters

-- a public name of the grammar, with the states of its start
pub record IsStart (g : Grammar) (tables : List StartStates) (name : Text) (list : StartStates) : Type 0 where
  pub place : ℕ
  pub names : NonterminalString × NonterminalString
  pub named : slice_get g.start_nonterminals.entries place ≡ Some names
  pub listed : slice_get tables place ≡ Some list
  pub is : names.0.0 ≡ name

-- a run of a program from a public name, where each parameter has its name as its value, ends as that of the stack machine over the name's tables
abbrev pub EndsByTables : Grammar → List StartStates → Program → Text → List RunItem → List ℕ → ℕ → Finish → Type 0
EndsByTables g tables program name items failing budget finish =
    (list : StartStates) × IsStart g tables name list × Told g list.states Trial items (values_of g) failing (weight program * weight program) budget finish

-- it came to an end, or its budget is spent
abbrev pub IsOver : Finish → Type 0
IsOver NoStart = ⊥
IsOver ParameterCount = ⊥
IsOver (Ended e calls steps) = Unit {0}
IsOver (Spent calls steps) = Unit {0}
IsOver (Stuck steps) = ⊥
