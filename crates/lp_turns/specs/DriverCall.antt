-- What a program answers to the driver's questions: each is a call of a method, over a store that has
-- the lists that are lent and nothing else. A value of another kind than the question wants is stuck.
use Rattle.std.specs.Prelude.{ℕ, ℤ, Bool, true, List, [], ◌∷◌, Option, Some, None}
use Rattle.std.specs.Option.{option_and_then}
use Rattle.lp_repr.specs.declared.values.Loc.{Loc}
use Rattle.lp_repr.specs.declared.values.RunItem.{RunItem}
use Rattle.lp_driver.specs.declared.answers.Simulated.{Simulated}
use Rattle.lp_driver.specs.Values.{Text, Token, Token_value, Recovered, Spanned}
use Rattle.lp_driver.specs.Values as parse
use Rattle.lp_driver.specs.Questions.{Answers, To_triple, Start_location, Start_state, Token_to_index, Action, Error_action, Eof_action, Goto, Token_to_symbol, Expected, Uses_recovery, Error_symbol, Reduce, Simulate_reduce, Reduced, Said, Says, Halts, Spent, Stuck}
use Rattle.lp_core.specs.declared.run.Ending.{Ending}
use Rattle.lp_core.specs.declared.run.Ending.TheVariants as ended
use Rattle.lp_core.specs.Datum.{Parsed}
use Rattle.lp_core.specs.Val.{Val, Plain}
use Rattle.lp_core.specs.Reading.{location_of, state_of, truth_of}
use Rattle.lp_core.specs.Numbers.{index, typed}
use Rattle.lp_core.specs.Store.{UserCall, Held, States, Symbols}
use Rattle.lp_core.specs.OpMeaning.{item_val}
use Rattle.lp_core.specs.JoinMeaning.{texts_of}
use Rattle.lp_core.specs.Flow.{State, Flow}
use Rattle.lp_core.specs.Flow as flow
use Rattle.lp_core.specs.Eval.{run_call}
use Rattle.lp_turns.specs.declared.runner.Runner.{Runner}
use Rattle.lp_turns.specs.Readings.{index_option, located_item, item_of, reduction_of, simulated_of, stacks_of, field_values, reduce_arguments, cell_val}

-- where a question is asked: no slots, these cells, and the calls of user code so far
abbrev pub begin : List Held → List UserCall → ℕ → State
begin cells calls left = record { store = record { env = []; cells = cells; taken = 0 }; calls = calls; left = left }

abbrev pub with_calls : Runner → List UserCall → ℕ → Runner
with_calls d calls left = record d { calls = calls; left = left }

-- the value that a call gives, and what it leaves in the cells; no `return` leaves a call
abbrev pub answer : Runner → Flow → Said (Val × List Held) Runner
answer d (flow.Gives v st) = Says (v, st.store.cells) (with_calls d st.calls st.left)
answer d (flow.Returns v st) = Halts Stuck (with_calls d st.calls st.left)
answer d (flow.Spent calls) = Halts Spent (with_calls d calls 0)
answer d (flow.Stuck left calls) = Halts Stuck (with_calls d calls left)

-- a call of the function of a number, over these cells
abbrev pub ask_over : ℕ → List Val → List Held → Runner → Said (Val × List Held) Runner
ask_over f vs cells d = answer d (run_call d.asked.program f vs (begin cells d.calls d.left))

-- the answer that the end of a call tells, over the cells and the runner that it leaves
abbrev pub told : Ending → List Held → Runner → Said (Val × List Held) Runner
told (ended.Value v) cells d = Says (v, cells) d
told ended.Spent cells d = Halts Spent d
told ended.Stuck cells d = Halts Stuck d

-- goes on with an answer
abbrev pub on_said : {A B : Type 0} → Said A Runner → (A → Runner → Said B Runner) → Said B Runner
on_said (Says x d) go = go x d
on_said (Halts why d) go = Halts why d

-- goes on with what is there
abbrev pub or_stuck : {A B : Type 0} → Option A → Runner → (A → Said B Runner) → Said B Runner
or_stuck None d go = Halts Stuck d
or_stuck (Some x) d go = go x

abbrev pub says : {A : Type 0} → Option A → Runner → Said A Runner
says None d = Halts Stuck d
says (Some x) d = Says x d

-- the value that a method gives, and what this is read as
abbrev pub ask : ℕ → List Val → Runner → Said Val Runner
ask f vs d = on_said (ask_over f vs [] d) (λ r d'. Says r.0 d')

abbrev pub asks : {A : Type 0} → (Val → Option A) → ℕ → List Val → Runner → Said A Runner
asks read f vs d = on_said (ask f vs d) (λ v d'. says (read v) d')

-- a state of the driver, or a production, as a number of the printed type
abbrev pub state_value : Runner → ℤ → Option Val
state_value d s = option_and_then (λ kind. typed kind s) d.methods.state_type

abbrev pub token_val : Token → Val
token_val token = Plain (Parsed (Token_value token))

-- an item goes through the closure of the token source, where there is one
abbrev pub to_triple : Option ℕ → RunItem → Runner → Said RunItem Runner
to_triple None item d = Says (located_item d.asked.program.located item) d
to_triple (Some closure) item d = asks item_of closure (item_val d.asked.program.located item ∷ []) d

-- a copy of the states is lent
abbrev pub expected : List ℤ → Runner → Said (List Text) Runner
expected states d =
    on_said (ask_over d.methods.expected_tokens_from_states (cell_val 0 ∷ []) (States states ∷ []) d) (λ r d'. says (texts_of d'.asked.program r.0) d')

abbrev pub reduced : List ℤ × List (Spanned Val) → Option parse.Ending → Reduced Val
reduced stacks ending = record { states = stacks.0; symbols = stacks.1; ending = ending }

-- the stacks are lent, and come back
abbrev pub reduce_on : List Val → List ℤ → List (Spanned Val) → Runner → Said (Reduced Val) Runner
reduce_on args states symbols d =
    on_said (ask_over d.methods.reduce args (States states ∷ Symbols symbols ∷ []) d) (λ r d'.
    or_stuck (stacks_of r.1) d' (λ stacks. or_stuck (reduction_of r.0) d' (λ ending. Says (reduced stacks ending) d')))

abbrev pub reduce : ℤ → Option Loc → List ℤ → List (Spanned Val) → Runner → Said (Reduced Val) Runner
reduce production start states symbols d =
    or_stuck (field_values [] d.asked.fields) d (λ fields. or_stuck (state_value d production) d (λ p.
    reduce_on (reduce_arguments fields p start) states symbols d))

-- a question about a state, and one about a state and a number
abbrev pub of_state : ℕ → ℤ → Runner → Said ℤ Runner
of_state f s d = or_stuck (state_value d s) d (λ v. asks state_of f (v ∷ []) d)

abbrev pub of_state_at : ℕ → ℤ → ℕ → Runner → Said ℤ Runner
of_state_at f s i d = or_stuck (state_value d s) d (λ v. asks state_of f (v ∷ index i ∷ []) d)

abbrev pub simulate : ℤ → Runner → Said Simulated Runner
simulate production d = or_stuck (state_value d production) d (λ v. asks simulated_of d.methods.simulate_reduce (v ∷ []) d)

abbrev pub program_answers : Answers Val Runner
program_answers (To_triple item) d = to_triple d.closure item d
program_answers Start_location d = asks location_of d.methods.start_location [] d
program_answers Start_state d = asks state_of d.methods.start_state [] d
program_answers (Token_to_index token) d = asks index_option d.methods.token_to_index (token_val token ∷ []) d
program_answers (Action state i) d = of_state_at d.methods.action state i d
program_answers (Error_action state) d = of_state d.methods.error_action state d
program_answers (Eof_action state) d = of_state d.methods.eof_action state d
program_answers (Goto state nonterminal) d = of_state_at d.methods.goto state nonterminal d
program_answers (Token_to_symbol i token) d = ask d.methods.token_to_symbol (index i ∷ token_val token ∷ []) d
program_answers (Expected states) d = expected states d
program_answers Uses_recovery d = asks truth_of d.methods.uses_error_recovery [] d
program_answers (Error_symbol recovery) d = ask d.methods.error_recovery_symbol (Plain (Parsed (Recovered recovery)) ∷ []) d
program_answers (Reduce production start states symbols) d = reduce production start states symbols d
program_answers (Simulate_reduce production) d = simulate production d

-- the steps left; any answer may be none
abbrev pub left_of : Runner → ℕ
left_of d = d.left

abbrev pub stuck_of : Runner → Bool
stuck_of d = true
