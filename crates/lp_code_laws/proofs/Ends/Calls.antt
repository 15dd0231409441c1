-- Calls of functions and of what is done with several values.
use Rattle.std.proofs.Common.{◌≡◌, ℕ, suc, Bool, true, false, List, [], ◌∷◌, ◌++◌, Option, Some, refl, sym, ap, ◌∙◌, eq-eqb}
use Rattle.std.specs.Prelude.{slice_get, length, take, ◌==◌, if◌then◌else◌}
use Rattle.lp_core.specs.declared.expr.Function.{Function}
use Rattle.lp_core.specs.declared.expr.Join.{Join}
use Rattle.lp_core.specs.declared.expr.Target.TheVariants as target
use Rattle.lp_core.specs.Val.{Val}
use Rattle.lp_core.specs.Tree.{end}
use Rattle.lp_core.specs.Store.{Store, UserCall, Program, Held}
use Rattle.lp_core.specs.Effect.{Gave, gave}
use Rattle.lp_core.specs.JoinMeaning.{join_meaning, join_calls}
use Rattle.lp_core.specs.Flow.{Stuck, flow, leave}
use Rattle.lp_core.specs.Eval.{enter_with, run}
use Rattle.lp_core.specs.Eval.{enter as enter_function}
use Rattle.lp_core.proofs.Same.{run_end}
use Rattle.lp_code_laws.specs.Ends.Ends.{Moment, moment, over, at, steps, Eval, Arguments, Enter, Outcome, Giving, Returning, flow_of, EndsIn}
use Rattle.lp_code_laws.proofs.Ends.Steps.{ends_as}
use Rattle.lp_code_laws.proofs.Ends.Lists.{take_first, take_all}
use Rattle.lp_code_laws.specs.Ends.Calls.{begun, left_with, moment_in, given_back}

-- a list with nothing behind it
with_none : (l : List UserCall) → l ++ [] ≡ l
with_none [] = refl
with_none (x ∷ l) = ap (λ r. x ∷ r) (with_none l)

-- what a call leaves, and how many steps are left over
left_flow : (env : List Val) (cells : ℕ) (o : Outcome) (left : ℕ) → leave env cells (flow_of o left) ≡ flow_of (left_with env cells o) left
left_flow env cells (Giving v n) left = refl
left_flow env cells (Returning v n) left = refl

module _ {p : Program} where
  -- the call itself, once its arguments are there
  pub arguments_done : {f : ℕ} {vs : List Val} {m : Moment} {k : ℕ} {o : Outcome} → EndsIn p (Enter f vs) m k o → EndsIn p (Arguments (target.Function f) end vs) m k o
  arguments_done {f} {vs} {m} {k} h = record { runs = λ left. run_end p f vs (at m (steps k left)) ∙ h.runs left }

  -- what is done with the values, and the calls of user code that it makes
  pub joined_calls : {j : Join} {vs : List Val} {m : Moment} {v : Val} {s : Store} → join_meaning p (length m.calls) j vs m.store ≡ Gave v s → EndsIn p (Arguments (target.Join j) end vs) m 0 (Giving v (moment s (m.calls ++ join_calls p (length m.calls) j vs)))
  joined_calls {j} {vs} {m} is = record { runs = λ left. ap (flow (at (moment m.store (m.calls ++ join_calls p (length m.calls) j vs)) left)) is }

  -- what is done with the values, without user code
  pub joined : {j : Join} {vs : List Val} {m : Moment} {v : Val} {s : Store} → join_calls p (length m.calls) j vs ≡ [] → join_meaning p (length m.calls) j vs m.store ≡ Gave v s → EndsIn p (Arguments (target.Join j) end vs) m 0 (Giving v (over s m))
  joined {j} {vs} {m} quiet is = record { runs = λ left. ap (λ c. flow (at (moment m.store c) left) (join_meaning p (length m.calls) j vs m.store)) (ap (λ c. m.calls ++ c) quiet ∙ with_none m.calls) ∙ ap (flow (at m left)) is }

  pub joined_found : {j : Join} {vs : List Val} {m : Moment} {v : Val} (found : Option Val) → join_calls p (length m.calls) j vs ≡ [] → join_meaning p (length m.calls) j vs m.store ≡ gave found m.store → found ≡ Some v → EndsIn p (Arguments (target.Join j) end vs) m 0 (Giving v m)
  joined_found {m = m} found quiet is there = joined quiet (is ∙ ap (λ o. gave o m.store) there)

  entered : (b : Bool) (fn : Function) (vs : List Val) (m : Moment) (k : ℕ) (o : Outcome) (left : ℕ) → b ≡ true → EndsIn p (Eval fn.body) (begun fn vs m) k o → (if b then enter_with p fn (run p) vs (at m (steps k left)) else Stuck (steps k left) m.calls) ≡ flow_of (left_with m.store.env (length m.store.cells) o) left
  entered true fn vs m k o left is h = ap (leave m.store.env (length m.store.cells)) (h.runs left) ∙ left_flow m.store.env (length m.store.cells) o left
  entered false fn vs m k o left is h = cc

  -- a call of a function, which is a step; it leaves the slots, and no cells of its own
  pub enter_by : {f : ℕ} {fn : Function} {vs : List Val} {m : Moment} {k : ℕ} {o : Outcome} → slice_get p.functions f ≡ Some fn → fn.params ≡ length vs → EndsIn p (Eval fn.body) (begun fn vs m) k o → EndsIn p (Enter f vs) m (suc k) (left_with m.store.env (length m.store.cells) o)
  enter_by {f} {fn} {vs} {m} {k} {o} is many h =
      record { runs = λ left. ap (λ c. enter_function p c (run p) vs (at m (steps k left))) is ∙ entered (fn.params == length vs) fn vs m k o left (eq-eqb fn.params (length vs) many) h }

left_given : (env : List Val) (many : ℕ) (cells : List Held) (o : Outcome) → take many (moment_in o).store.cells ≡ cells → left_with env many o ≡ given_back env cells o
left_given env many cells (Giving v n) is = ap (λ c. Giving v (moment (record { env = env; cells = c; taken = n.store.taken }) n.calls)) is
left_given env many cells (Returning v n) is = ap (λ c. Giving v (moment (record { env = env; cells = c; taken = n.store.taken }) n.calls)) is

module _ {p : Program} where
  -- a call that makes cells: the caller has its own
  pub enter_with_cells : {f : ℕ} {fn : Function} {vs : List Val} {m : Moment} {k : ℕ} {o : Outcome} (cells extra : List Held) → slice_get p.functions f ≡ Some fn → fn.params ≡ length vs → EndsIn p (Eval fn.body) (begun fn vs m) k o → (moment_in o).store.cells ≡ cells ++ extra → length cells ≡ length m.store.cells → EndsIn p (Enter f vs) m (suc k) (given_back m.store.env cells o)
  enter_with_cells {m = m} {o = o} cells extra is many h are same =
      ends_as (enter_by is many h) (left_given m.store.env (length m.store.cells) cells o (ap (λ k. take k (moment_in o).store.cells) (sym same) ∙ ap (take (length cells)) are ∙ take_first cells extra))

  -- a call that makes no cell
  pub enter : {f : ℕ} {fn : Function} {vs : List Val} {m : Moment} {k : ℕ} {o : Outcome} → slice_get p.functions f ≡ Some fn → fn.params ≡ length vs → EndsIn p (Eval fn.body) (begun fn vs m) k o → length (moment_in o).store.cells ≡ length m.store.cells → EndsIn p (Enter f vs) m (suc k) (given_back m.store.env (moment_in o).store.cells o)
  enter {m = m} {o = o} is many h same =
      ends_as (enter_by is many h) (left_given m.store.env (length m.store.cells) (moment_in o).store.cells o (ap (λ k. take k (moment_in o).store.cells) (sym same) ∙ take_all (moment_in o).store.cells))
