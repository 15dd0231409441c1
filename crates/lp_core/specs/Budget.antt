-- Runs with more steps left.
use Rattle.std.specs.Prelude.{◌≡◌, ℕ, ◌+◌, List}
use Rattle.lp_core.specs.Val.{Val}
use Rattle.lp_core.specs.Store.{UserCall, Program}
use Rattle.lp_core.specs.Flow.{State, Flow, Gives, Returns, Spent, Stuck}
use Rattle.lp_core.specs.Eval.{run_call}
use Rattle.lp_core.specs.Prefix.{IsPrefix}

-- the calls of user code until then
abbrev pub calls_in : Flow → List UserCall
calls_in (Gives v st) = st.calls
calls_in (Returns v st) = st.calls
calls_in (Spent calls) = calls
calls_in (Stuck left calls) = calls

abbrev pub more_left : ℕ → State → State
more_left d st = record st { left = st.left + d }

-- the second is the first with d more steps left; where the first was spent, its calls come first
abbrev pub Longer : ℕ → Flow → Flow → Type 0
Longer d (Gives v st) fl = fl ≡ Gives v (more_left d st)
Longer d (Returns v st) fl = fl ≡ Returns v (more_left d st)
Longer d (Spent calls) fl = IsPrefix calls (calls_in fl)
Longer d (Stuck left calls) fl = fl ≡ Stuck (left + d) calls

-- with d more steps a call ends the same, unless it was spent; then it began with the same calls
abbrev pub MoreSteps : Type 0
MoreSteps = (p : Program) (d f : ℕ) (vs : List Val) (st : State) → Longer d (run_call p f vs st) (run_call p f vs (more_left d st))
