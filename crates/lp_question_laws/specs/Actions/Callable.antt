-- An action that others run, and what the lines of inlined actions come to.
use Rattle.std.specs.Prelude.{◌≡◌, ℕ, ◌+◌, ◌*◌, ◌≤◌, Bool, true, false, List, [], ◌∷◌, ◌++◌, length, map, codes, decimal, Some}
use Rattle.lp_repr.specs.declared.repr.Grammar.{Grammar}
use Rattle.lp_repr.specs.declared.repr.InlinedSymbol.{InlinedSymbol}
use Rattle.lp_repr.specs.declared.repr.InlinedSymbol.TheVariants.{Original, Inlined}
use Rattle.lp_repr.specs.declared.values.Loc.{Loc}
use Rattle.lp_driver.specs.Values.{Spanned, Value}
use Rattle.lp_core.specs.Store.{Program, Store, UserCall}
use Rattle.lp_core.specs.Val.{Val}
use Rattle.lp_machine.specs.ActionMeaning.{Meaning}
use Rattle.lp_machine.specs.declared.calls.Acted.{Acted}
use Rattle.lp_actions.specs.Inlines.{action_fails}
use Rattle.lp_agrees.specs.Machine.{as_user}
use Rattle.lp_code_laws.specs.Ends.Ends.{Moment, Task, Outcome, Giving, Returning, EndsIn}
use Rattle.lp_maker.specs.Making.{Making, number_in}
use Rattle.lp_question_laws.specs.Tables.Acts.{acted_val, arguments}
use Rattle.lp_question_laws.specs.Actions.Inlined.{within}
use Rattle.lp_question_laws.specs.Actions.Performs.{IsCalm, Performs}

-- an action can be called under its name with so many symbols
pub record Callable (p : Program) (m : Making) (g : Grammar) (vals : List Val) (acts : Meaning) (most : ℕ) (action count : ℕ) : Type 0 where
  pub number : ℕ
  pub named : number_in (codes "super::action" ++ decimal action) m.names ≡ Some number
  pub extra : ℕ
  pub small : extra ≤ 1
  pub performs : (xs : List (Spanned Value)) (place : Loc × Loc) (at : Moment) → length xs ≡ count → Performs p number (arguments vals xs place) (action_fails g action) extra (acts action xs place (length at.calls)) most at

-- the actions of inlined symbols can be called, and where nothing may fail they can't
abbrev pub AreCallable : Program → Making → Grammar → List Val → Meaning → ℕ → Bool → List InlinedSymbol → Type 0
AreCallable p m g vals acts most fallible [] = Unit {0}
AreCallable p m g vals acts most fallible (Original s ∷ ss) = AreCallable p m g vals acts most fallible ss
AreCallable p m g vals acts most fallible (Inlined action inner ∷ ss) = Callable p m g vals acts most action (length inner) × (fallible ≡ false → action_fails g action ≡ false) × AreCallable p m g vals acts most fallible ss

-- a value that is given, or that the call returns
abbrev pub ended : Bool → Val → Moment → Outcome
ended true v m = Returning v m
ended false v m = Giving v m

-- a part of a call of an action's function comes to what the action does, over some slots
pub record Runs (p : Program) (t : Task) (s : Store) (env : List Val) (calls : List UserCall) (fallible : Bool) (acted : Acted) (most extra : ℕ) : Type 0 where
  pub steps : ℕ
  pub few : steps ≤ most * length acted.calls + extra
  pub returned : Bool
  pub after : List Val
  pub ends : EndsIn p t (within s env calls) steps (ended returned (acted_val fallible acted.result) (within s after (calls ++ map as_user acted.calls)))
  pub some : 1 ≤ length acted.calls
  pub calm : IsCalm fallible acted.result
