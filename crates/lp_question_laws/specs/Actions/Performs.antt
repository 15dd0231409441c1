-- What a call of an action's function does, as it is counted: so many steps for each call of user code, and one for a location.
use Rattle.std.specs.Prelude.{◌≡◌, ℕ, ◌+◌, ◌*◌, ◌≤◌, Bool, true, false, List, ◌++◌, length, map, Result, Ok, Err}
use Rattle.lp_repr.specs.declared.repr.ActionFnDefnKind.{ActionFnDefnKind}
use Rattle.lp_repr.specs.declared.repr.ActionFnDefnKind.TheVariants.{User, Lookaround, Inline}
use Rattle.lp_driver.specs.Values.{Value, Failure}
use Rattle.lp_core.specs.Store.{Program}
use Rattle.lp_core.specs.Val.{Val}
use Rattle.lp_machine.specs.declared.calls.Acted.{Acted}
use Rattle.lp_agrees.specs.Machine.{as_user}
use Rattle.lp_code_laws.specs.Ends.Ends.{Moment, moment, Enter, Giving, EndsIn}
use Rattle.lp_question_laws.specs.Tables.Acts.{acted_val}

-- what can't fail doesn't
abbrev pub IsCalm : Bool → Result Value Failure → Type 0
IsCalm true r = Unit {0}
IsCalm false (Ok v) = Unit {0}
IsCalm false (Err e) = ⊥

-- a location makes no call, and any other action at least one
abbrev pub quiet : ActionFnDefnKind → ℕ
quiet (User patterns types code) = 0
quiet (Lookaround place) = 1
quiet (Inline outer symbols) = 0

pub record Performs (p : Program) (f : ℕ) (args : List Val) (fallible : Bool) (extra : ℕ) (acted : Acted) (most : ℕ) (m : Moment) : Type 0 where
  pub steps : ℕ
  pub few : steps ≤ most * length acted.calls + extra
  pub ends : EndsIn p (Enter f args) m steps (Giving (acted_val fallible acted.result) (moment m.store (m.calls ++ map as_user acted.calls)))
  pub calls : 1 ≤ length acted.calls + extra
  pub fails : (e : Failure) → acted.result ≡ Err e → 1 ≤ length acted.calls
  pub calm : IsCalm fallible acted.result
