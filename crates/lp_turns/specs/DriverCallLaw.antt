-- The answers of a program keep the law of a definition: a call is a step, and what comes after it
-- raises no number of steps.
use Rattle.std.proofs.Common.{ℕ, zero, suc, ◌≤◌, ◌<◌, ℤ, Bool, true, false, List, [], ◌∷◌, Option, Some, None, refl, length, arith}
use Rattle.std.specs.Prelude.{slice_get, ◌==◌, if◌then◌else◌}
use Rattle.lp_repr.specs.declared.values.RunItem.{RunItem}
use Rattle.lp_repr.specs.declared.values.Loc.{Loc}
use Rattle.lp_driver.specs.Values.{Spanned}
use Rattle.lp_driver.specs.Questions.{IsLawful, Lowers, To_triple, Start_location, Start_state, Token_to_index, Action, Error_action, Eof_action, Goto, Token_to_symbol, Expected, Uses_recovery, Error_symbol, Reduce, Simulate_reduce, Reduced, Said, Says, Halts, Spent, Stuck}
use Rattle.lp_driver.specs.Values.{Recovered}
use Rattle.lp_core.specs.declared.expr.Function.{Function}
use Rattle.lp_core.specs.Datum.{Parsed}
use Rattle.lp_core.specs.Val.{Val, Plain}
use Rattle.lp_core.specs.Tree.{Tree}
use Rattle.lp_core.specs.Reading.{location_of, state_of, truth_of}
use Rattle.lp_core.specs.Numbers.{index}
use Rattle.lp_core.specs.Store.{UserCall, Program, Held, States, Symbols}
use Rattle.lp_core.specs.OpMeaning.{item_val}
use Rattle.lp_core.specs.JoinMeaning.{texts_of}
use Rattle.lp_core.specs.Flow.{State, Flow, spend_from, leave}
use Rattle.lp_core.specs.Flow as flow
use Rattle.lp_core.specs.Eval.{call_within, enter, enter_with, entered, run, run_call}
use Rattle.lp_core.proofs.Falls.{Within, After, same_prefix, eval_falls, call_falls}
use Rattle.lp_turns.specs.declared.runner.Runner.{Runner}
use Rattle.lp_turns.specs.Readings.{index_option, item_of, reduction_of, simulated_of, stacks_of, field_values, reduce_arguments, cell_val}
use Rattle.lp_turns.specs.DriverCall.{begin, answer, ask_over, on_said, or_stuck, says, ask, asks, state_value, token_val, to_triple, expected, reduced, reduce_on, reduce, of_state, of_state_at, simulate, program_answers, left_of, stuck_of}

module _ (k : ℕ) (c : List UserCall) where
  leave_falls : (env : List Val) (n : ℕ) (fl : Flow) → After k c fl → After k c (leave env n fl)
  leave_falls env n (flow.Gives v st) a = a
  leave_falls env n (flow.Returns v st) a = a
  leave_falls env n (flow.Spent calls) a = a
  leave_falls env n (flow.Stuck left calls) a = a

  module _ (p : Program) where
    run_falls : (e : Tree) (st : State) → Within k c st → After k c (run p e st)
    run_falls e st le = eval_falls k c p (call_within p st.left) st.left (call_falls k c p st.left) e st le

    when_falls : (b : Bool) (fn : Function) (vs : List Val) (st : State) → Within k c st → After k c (if b then enter_with p fn (run p) vs st else flow.Stuck st.left st.calls)
    when_falls true fn vs st le = leave_falls st.store.env (length st.store.cells) (run p fn.body (entered p fn vs st)) (run_falls fn.body (entered p fn vs st) le)
    when_falls false fn vs st le = le

    enter_falls : (o : Option Function) (vs : List Val) (st : State) → Within k c st → After k c (enter p o (run p) vs st)
    enter_falls None vs st le = le
    enter_falls (Some fn) vs st le = when_falls (fn.params == length vs) fn vs st le

-- a call gives a value with fewer steps left
abbrev pub Fewer : ℕ → Flow → Type 0
Fewer n (flow.Gives v st) = st.left < n
Fewer n (flow.Returns v st) = st.left < n
Fewer n (flow.Spent calls) = Unit {0}
Fewer n (flow.Stuck left calls) = left ≤ n

after_fewer : (k : ℕ) (c : List UserCall) (fl : Flow) → After k c fl → Fewer (suc k) fl
after_fewer k c (flow.Gives v st) a = omega (arith, a.0)
after_fewer k c (flow.Returns v st) a = omega (arith, a.0)
after_fewer k c (flow.Spent calls) a = tt
after_fewer k c (flow.Stuck left calls) a = omega (arith, a.0)

spend_fewer : (p : Program) (o : Option Function) (vs : List Val) (n : ℕ) (st : State) → Fewer n (spend_from n st (enter p o (run p) vs))
spend_fewer p o vs zero st = tt
spend_fewer p o vs (suc k) st =
    after_fewer k st.calls (enter p o (run p) vs (record st { left = k })) (enter_falls k st.calls p o vs (record st { left = k }) (omega arith, same_prefix st.calls))

pub call_fewer : (p : Program) (f : ℕ) (vs : List Val) (st : State) → Fewer st.left (run_call p f vs st)
call_fewer p f vs st = spend_fewer p (slice_get p.functions f) vs st.left st

-- an answer with fewer steps left than n
abbrev pub Costs : {A : Type 0} → ℕ → Said A Runner → Type 0
Costs n said = Lowers left_of stuck_of false n said

answer_costs : (d : Runner) (fl : Flow) → Fewer d.left fl → Costs d.left (answer d fl)
answer_costs d (flow.Gives v st) h = h
answer_costs d (flow.Returns v st) h = (omega arith, refl)
answer_costs d (flow.Spent calls) h = refl
answer_costs d (flow.Stuck left calls) h = (h, refl)

over_costs : (f : ℕ) (vs : List Val) (cells : List Held) (d : Runner) → Costs d.left (ask_over f vs cells d)
over_costs f vs cells d =
    answer_costs d (run_call d.asked.program f vs (begin cells d.calls d.left)) (call_fewer d.asked.program f vs (begin cells d.calls d.left))

on_costs : {A B : Type 0} (n : ℕ) (said : Said A Runner) (go : A → Runner → Said B Runner) → Costs n said → ((x : A) (d : Runner) → d.left < n → Costs n (go x d)) → Costs n (on_said said go)
on_costs n (Says x d) go h k = k x d h
on_costs n (Halts Spent d) go h k = h
on_costs n (Halts Stuck d) go h k = h

says_costs : {A : Type 0} (n : ℕ) (o : Option A) (d : Runner) → d.left < n → Costs n (says o d)
says_costs n None d h = (omega arith, refl)
says_costs n (Some x) d h = h

or_costs : {A B : Type 0} (n : ℕ) (o : Option A) (d : Runner) (go : A → Said B Runner) → d.left ≤ n → ((x : A) → Costs n (go x)) → Costs n (or_stuck o d go)
or_costs n None d go le h = (le, refl)
or_costs n (Some x) d go le h = h x

ask_costs : (f : ℕ) (vs : List Val) (d : Runner) → Costs d.left (ask f vs d)
ask_costs f vs d = on_costs d.left (ask_over f vs [] d) (λ r d'. Says r.0 d') (over_costs f vs [] d) (λ r d' h. h)

asks_costs : {A : Type 0} (read : Val → Option A) (f : ℕ) (vs : List Val) (d : Runner) → Costs d.left (asks read f vs d)
asks_costs read f vs d = on_costs d.left (ask f vs d) (λ v d'. says (read v) d') (ask_costs f vs d) (λ v d' h. says_costs d.left (read v) d' h)

-- an answer that may be free
free : {A : Type 0} (n : ℕ) (said : Said A Runner) → Costs n said → Lowers left_of stuck_of true n said
free n (Says x d) h = omega arith
free n (Halts Spent d) h = h
free n (Halts Stuck d) h = h

triple_is_free : (o : Option ℕ) (item : RunItem) (d : Runner) → Lowers left_of stuck_of true d.left (to_triple o item d)
triple_is_free None item d = omega arith
triple_is_free (Some closure) item d =
    let vs = item_val d.asked.program.located item ∷ [] in
    free d.left (asks item_of closure vs d) (asks_costs item_of closure vs d)

expected_costs : (states : List ℤ) (d : Runner) → Costs d.left (expected states d)
expected_costs states d =
    on_costs d.left (ask_over d.methods.expected_tokens_from_states (cell_val 0 ∷ []) (States states ∷ []) d) (λ r d'. says (texts_of d'.asked.program r.0) d')
    (over_costs d.methods.expected_tokens_from_states (cell_val 0 ∷ []) (States states ∷ []) d)
    (λ r d' h. says_costs d.left (texts_of d'.asked.program r.0) d' h)

of_state_costs : (f : ℕ) (s : ℤ) (d : Runner) → Costs d.left (of_state f s d)
of_state_costs f s d = or_costs d.left (state_value d s) d (λ v. asks state_of f (v ∷ []) d) (omega arith) (λ v. asks_costs state_of f (v ∷ []) d)

of_state_at_costs : (f : ℕ) (s : ℤ) (i : ℕ) (d : Runner) → Costs d.left (of_state_at f s i d)
of_state_at_costs f s i d = or_costs d.left (state_value d s) d (λ v. asks state_of f (v ∷ index i ∷ []) d) (omega arith) (λ v. asks_costs state_of f (v ∷ index i ∷ []) d)

simulate_costs : (p : ℤ) (d : Runner) → Costs d.left (simulate p d)
simulate_costs p d =
    or_costs d.left (state_value d p) d (λ v. asks simulated_of d.methods.simulate_reduce (v ∷ []) d) (omega arith) (λ v. asks_costs simulated_of d.methods.simulate_reduce (v ∷ []) d)

abbrev reduction : Val × List Held → Runner → Said (Reduced Val) Runner
reduction r d = or_stuck (stacks_of r.1) d (λ stacks. or_stuck (reduction_of r.0) d (λ ending. Says (reduced stacks ending) d))

reduction_costs : (n : ℕ) (r : Val × List Held) (d : Runner) → d.left < n → Costs n (reduction r d)
reduction_costs n r d h =
    or_costs n (stacks_of r.1) d (λ stacks. or_stuck (reduction_of r.0) d (λ ending. Says (reduced stacks ending) d)) (omega arith)
    (λ stacks. or_costs n (reduction_of r.0) d (λ ending. Says (reduced stacks ending) d) (omega arith) (λ ending. h))

reduce_on_costs : (args : List Val) (states : List ℤ) (symbols : List (Spanned Val)) (d : Runner) → Costs d.left (reduce_on args states symbols d)
reduce_on_costs args states symbols d =
    let cells : List Held = States states ∷ Symbols symbols ∷ [] in
    on_costs d.left (ask_over d.methods.reduce args cells d) reduction (over_costs d.methods.reduce args cells d) (reduction_costs d.left)

reduce_costs : (p : ℤ) (start : Option Loc) (states : List ℤ) (symbols : List (Spanned Val)) (d : Runner) → Costs d.left (reduce p start states symbols d)
reduce_costs p start states symbols d =
    or_costs d.left (field_values [] d.asked.fields) d (λ fields. or_stuck (state_value d p) d (λ v. reduce_on (reduce_arguments fields v start) states symbols d)) (omega arith)
    (λ fields. or_costs d.left (state_value d p) d (λ v. reduce_on (reduce_arguments fields v start) states symbols d) (omega arith)
    (λ v. reduce_on_costs (reduce_arguments fields v start) states symbols d))

pub program_law : IsLawful program_answers left_of stuck_of
program_law (To_triple item) d = triple_is_free d.closure item d
program_law Start_location d = asks_costs location_of d.methods.start_location [] d
program_law Start_state d = asks_costs state_of d.methods.start_state [] d
program_law (Token_to_index token) d = asks_costs index_option d.methods.token_to_index (token_val token ∷ []) d
program_law (Action state i) d = of_state_at_costs d.methods.action state i d
program_law (Error_action state) d = of_state_costs d.methods.error_action state d
program_law (Eof_action state) d = of_state_costs d.methods.eof_action state d
program_law (Goto state nonterminal) d = of_state_at_costs d.methods.goto state nonterminal d
program_law (Token_to_symbol i token) d = ask_costs d.methods.token_to_symbol (index i ∷ token_val token ∷ []) d
program_law (Expected states) d = expected_costs states d
program_law Uses_recovery d = asks_costs truth_of d.methods.uses_error_recovery [] d
program_law (Error_symbol recovery) d = ask_costs d.methods.error_recovery_symbol (Plain (Parsed (Recovered recovery)) ∷ []) d
program_law (Reduce production start states symbols) d = reduce_costs production start states symbols d
program_law (Simulate_reduce production) d = simulate_costs production d
