-- What an ending tells of how a call ends.
use Rattle.std.specs.Prelude.{◌≡◌}
use Rattle.lp_core.specs.declared.run.Ending.{Ending}
use Rattle.lp_core.specs.declared.run.Ending.TheVariants as e
use Rattle.lp_core.specs.Flow.{State, Flow, Gives, Returns, Spent, Stuck}

-- a return outside of a call is stuck
abbrev pub as_call : Flow → Flow
as_call (Gives v st) = Gives v st
as_call (Returns v st) = Stuck st.left st.calls
as_call (Spent calls) = Spent calls
as_call (Stuck left calls) = Stuck left calls

-- A value comes with the state that it leaves. Spent leaves no step; at both ends without a value the
-- calls of user code and the steps that are left are told.
abbrev pub Ends : Ending → State → Flow → Type 0
Ends (e.Value v) st fl = fl ≡ Gives v st
Ends e.Spent st fl = (fl ≡ Spent st.calls) × (st.left ≡ 0)
Ends e.Stuck st fl = fl ≡ Stuck st.left st.calls
