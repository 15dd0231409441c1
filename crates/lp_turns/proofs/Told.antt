-- What the end of a call tells is what the question is answered.
use Rattle.std.proofs.Common.{◌≡◌, ℕ, List, [], sym, ap, ◌∙◌, subst}
use Rattle.lp_driver.specs.Questions.{Halts, Spent}
use Rattle.lp_core.specs.declared.run.Ending.{Ending}
use Rattle.lp_core.specs.declared.run.Ending.TheVariants as ended
use Rattle.lp_core.specs.Val.{Val}
use Rattle.lp_core.specs.Store.{UserCall, Held, Program}
use Rattle.lp_core.specs.Flow.{State, Flow}
use Rattle.lp_core.specs.Endings.{Ends}
use Rattle.lp_core.specs.Eval.{run_call}
use Rattle.lp_turns.specs.declared.runner.Runner.{Runner}
use Rattle.lp_turns.specs.DriverCall.{begin, with_calls, answer, ask_over, told}

-- the same call in the same program
pub ends_at : (p q : Program) (f : ℕ) (vs : List Val) (before after : State) (e : Ending) → p ≡ q → Ends e after (run_call p f vs before) → Ends e after (run_call q f vs before)
ends_at p q f vs before after e same ends = subst (λ (r : Program). Ends e after (run_call r f vs before)) same ends

abbrev pub stood : List Held → ℕ → List Val → List UserCall → State
stood cells left env calls = record { store = record { env = env; cells = cells; taken = 0 }; calls = calls; left = left }

-- a world with no slots and these calls
pub begins : (cells : List Held) (left : ℕ) (env : List Val) (a b : List UserCall) → env ≡ [] → a ≡ b → stood cells left env a ≡ begin cells b left
begins cells left env a b none same = ap (λ (l : List Val). stood cells left l a) none ∙ ap (stood cells left []) same

tells : (d : Runner) (e : Ending) (st : State) (fl : Flow) → Ends e st fl → answer d fl ≡ told e st.store.cells (with_calls d st.calls st.left)
tells d (ended.Value v) st fl h = ap (answer d) h
tells d ended.Spent st fl h = ap (answer d) h.0 ∙ ap (λ (n : ℕ). Halts Spent (with_calls d st.calls n)) (sym h.1)
tells d ended.Stuck st fl h = ap (answer d) h

-- a call that began where it was asked
pub tells_over : (d : Runner) (f : ℕ) (vs : List Val) (cells : List Held) (before after : State) (e : Ending) (calls : List UserCall) → before ≡ begin cells d.calls d.left
    → Ends e after (run_call d.asked.program f vs before) → calls ≡ after.calls → ask_over f vs cells d ≡ told e after.store.cells (with_calls d calls after.left)
tells_over d f vs cells before after e calls began ends made =
    ap (λ (st : State). answer d (run_call d.asked.program f vs st)) (sym began) ∙ tells d e after (run_call d.asked.program f vs before) ends
    ∙ ap (λ (l : List UserCall). told e after.store.cells (with_calls d l after.left)) (sym made)
