-- What a definition by tables answers.
use Rattle.std.specs.Prelude.{ℕ, zero, suc, ◌+◌, ◌-◌, ◌^◌, ℤ, pos, negsuc, List, [], ◌∷◌, ◌++◌, length, map, Option, Some, None, Bool, true, false, is_some, Result, Ok, Err, nat_lt, if◌then◌else◌}
use Rattle.lp_repr.specs.declared.values.Loc.{Loc}
use Rattle.lp_repr.specs.declared.values.Loc.TheVariants.{Default}
use Rattle.lp_repr.specs.declared.values.RunItem.{RunItem}
use Rattle.lp_repr.specs.declared.values.RunItem.TheVariants as item
use Rattle.lp_driver.specs.declared.answers.Expecting.{Expecting}
use Rattle.lp_driver.specs.declared.answers.Expecting.TheVariants.{Trial, Actions}
use Rattle.lp_driver.specs.declared.answers.Simulated.{Simulated}
use Rattle.lp_driver.specs.declared.answers.Simulated.TheVariants as simulated
use Rattle.lp_driver.specs.Values.{Text, Spanned, Value, Failure, Recovered, Gives, Fails}
use Rattle.lp_driver.specs.DriverState.{last_of}
use Rattle.lp_driver.specs.Questions.{Answers, To_triple, Start_location, Start_state, Token_to_index, Action, Error_action, Eof_action, Goto, Token_to_symbol, Expected, Uses_recovery, Error_symbol, Reduce, Simulate_reduce, Reduced, Said, Says, Halts, Spent, Stuck}
use Rattle.lp_machine.specs.declared.lookup.Act.{Act}
use Rattle.lp_machine.specs.declared.lookup.Act.TheVariants.{Shift, ReduceBy, NoAction}
use Rattle.lp_machine.specs.declared.lookup.Rule.{Rule}
use Rattle.lp_machine.specs.declared.calls.Call.{Call}
use Rattle.lp_machine.specs.declared.calls.Acted.{Acted}
use Rattle.lp_machine.specs.declared.by_tables.TableDefinition.{TableDefinition}
use Rattle.lp_machine.specs.ReductionSpan.{popped, below, empty_place, span}
use Rattle.lp_machine.specs.Tables.{Tables}
use Rattle.lp_machine.specs.TablesView.{tables_of}
use Rattle.lp_machine.specs.declared.verdict.Verdict.{Verdict}
use Rattle.lp_machine.specs.declared.verdict.Verdict.TheVariants.{Yes, No, GoesOn}
use Rattle.lp_machine.specs.ExpectedList.{action_on, action_on_error, goto_from, verdict, names_with_action}
use Rattle.lp_machine.specs.ExpectedLaw.{names_tried}
use Rattle.lp_machine.specs.Move.{located}

-- a state of the driver by its number; none is below 0
abbrev pub number_of : ℤ → ℕ
number_of (pos n) = n
number_of (negsuc n) = 0

-- what a state does, as the driver takes it, where the number fits
abbrev pub entry_of : Act → Option ℤ
entry_of NoAction = Some (pos 0)
entry_of (Shift to) = if nat_lt to (2 ^ 31 - 1) then Some (pos (suc to)) else None
entry_of (ReduceBy p) = if nat_lt p (2 ^ 31) then Some (negsuc p) else None

abbrev pub state_of : Option ℕ → Option ℤ
state_of None = None
state_of (Some n) = if nat_lt n (2 ^ 31) then Some (pos n) else None

abbrev pub tables_in : TableDefinition → Tables
tables_in d = tables_of d.tables

-- the steps left, and whether it can go no further
abbrev pub left_of : TableDefinition → ℕ
left_of d = d.left

abbrev pub stuck_of : TableDefinition → Bool
stuck_of d = d.is_stuck

abbrev pub with_steps : TableDefinition → ℕ → TableDefinition
with_steps d left = record d { left = left }

abbrev pub with_calls : TableDefinition → List Call → TableDefinition
with_calls d calls = record d { calls = d.calls ++ calls }

abbrev pub with_stuck : TableDefinition → TableDefinition
with_stuck d = record d { is_stuck = true }

-- it can go no further
abbrev pub sticks : {A : Type 0} → TableDefinition → Said A TableDefinition
sticks d = Halts Stuck (with_stuck d)

-- goes on with what is there
abbrev pub or_sticks : {A X : Type 0} → Option X → TableDefinition → (X → Said A TableDefinition) → Said A TableDefinition
or_sticks None d go = sticks d
or_sticks (Some x) d go = go x

-- a step first, where one is left
abbrev pub step_from : {A : Type 0} → ℕ → TableDefinition → (TableDefinition → Said A TableDefinition) → Said A TableDefinition
step_from zero d go = Halts Spent d
step_from (suc k) d go = go (with_steps d k)

abbrev pub step : {A : Type 0} → TableDefinition → (TableDefinition → Said A TableDefinition) → Said A TableDefinition
step d go = step_from d.left d go

-- the answer itself, where it is there
abbrev pub says_or_sticks : {A : Type 0} → Option A → TableDefinition → Said A TableDefinition
says_or_sticks o d = or_sticks o d (λ x. Says x d)

abbrev pub located_item : Bool → RunItem → RunItem
located_item is_located (item.Fault name) = item.Fault name
located_item is_located (item.Token a token b) = item.Token (located is_located a) token (located is_located b)

-- whether a trial says yes, where it ends
abbrev pub is_yes : Verdict → Option Bool
is_yes Yes = Some true
is_yes No = Some false
is_yes (GoesOn stack) = None

-- what a trial says after one reduction more, where it goes on
abbrev pub looks_again : Tables → Option ℕ → Verdict → Option Verdict
looks_again t terminal Yes = None
looks_again t terminal No = None
looks_again t terminal (GoesOn stack) = Some (verdict t stack terminal)

-- a list where each trial ends within the steps left; else these are spent
abbrev pub or_spent : Option (List Text) → TableDefinition → Said (List Text) TableDefinition
or_spent (Some names) d = Says names d
or_spent None d = Halts Spent (with_steps d 0)

abbrev pub expected_by : Expecting → List ℕ → TableDefinition → Said (List Text) TableDefinition
expected_by Actions states d = Says (names_with_action (tables_in d) (last_of states) 0 (tables_in d).names) d
expected_by Trial states d = or_spent (names_tried (tables_in d) d.left states 0 (tables_in d).names) d

abbrev pub simulated_by : Option Rule → Option Simulated
simulated_by None = None
simulated_by (Some rule) = Some (if rule.is_start then simulated.Accept else simulated.Reduce rule.length rule.nonterminal)

abbrev pub simulate : ℤ → TableDefinition → Said Simulated TableDefinition
simulate (negsuc p) d = sticks d
simulate (pos p) d = says_or_sticks (simulated_by ((tables_in d).rule p)) d

-- the stacks after a reduction that gave a value
abbrev pub reduced_to : Rule → Spanned Value → List ℤ → List (Spanned Value) → ℤ → Reduced Value
reduced_to rule symbol states symbols to =
    record { states = below rule.length states ++ to ∷ []; symbols = below rule.length symbols ++ symbol ∷ []; ending = None }

abbrev pub goes_to : Rule → Spanned Value → List ℤ → List (Spanned Value) → TableDefinition → Said (Reduced Value) TableDefinition
goes_to rule symbol states symbols d =
    or_sticks (state_of (goto_from (tables_in d) (last_of (map number_of (below rule.length states))) rule.nonterminal)) d (λ to.
    Says (reduced_to rule symbol states symbols to) d)

-- a reduction whose calls are made
abbrev pub reduced_by : Rule → Result Value Failure → Loc → List ℤ → List (Spanned Value) → TableDefinition → Said (Reduced Value) TableDefinition
reduced_by rule (Err f) empty states symbols d = Says (record { states = states; symbols = symbols; ending = Some (Fails f) }) d
reduced_by rule (Ok value) empty states symbols d =
    if rule.is_start then Says (record { states = states; symbols = symbols; ending = Some (Gives value) }) d
    else (let at = span (popped rule.length symbols) empty in goes_to rule (at.0, value, at.1) states symbols d)

abbrev pub reduces_with : Rule → Acted → Loc → List ℤ → List (Spanned Value) → TableDefinition → Said (Reduced Value) TableDefinition
reduces_with rule acted empty states symbols d = reduced_by rule acted.result empty states symbols (with_calls d acted.calls)

abbrev pub reduce_by : Rule → Option Loc → List ℤ → List (Spanned Value) → TableDefinition → Said (Reduced Value) TableDefinition
reduce_by rule start states symbols d =
    if nat_lt (length symbols) rule.length then sticks d
    else (let empty = empty_place start symbols in
    reduces_with rule ((tables_in d).act rule.action (popped rule.length symbols) (empty, empty) (length d.calls)) empty states symbols d)

abbrev pub reduce : ℤ → Option Loc → List ℤ → List (Spanned Value) → TableDefinition → Said (Reduced Value) TableDefinition
reduce (negsuc p) start states symbols d = sticks d
reduce (pos p) start states symbols d = or_sticks ((tables_in d).rule p) d (λ rule. reduce_by rule start states symbols d)

abbrev pub table_answers : Answers Value TableDefinition
table_answers (To_triple item) d = Says (located_item (tables_in d).is_located item) d
table_answers Start_location d = step d (λ d. Says Default d)
table_answers Start_state d = step d (λ d. Says (pos 0) d)
table_answers (Token_to_index token) d = step d (λ d. Says ((tables_in d).terminal token) d)
table_answers (Action state index) d = step d (λ d. says_or_sticks (entry_of (action_on (tables_in d) (Some (number_of state)) (Some index))) d)
table_answers (Error_action state) d = step d (λ d. says_or_sticks (entry_of (action_on_error (tables_in d) (Some (number_of state)))) d)
table_answers (Eof_action state) d = step d (λ d. says_or_sticks (entry_of (action_on (tables_in d) (Some (number_of state)) None)) d)
table_answers (Goto state nonterminal) d = step d (λ d. says_or_sticks (state_of ((tables_in d).goto (number_of state) nonterminal)) d)
table_answers (Token_to_symbol index token) d = step d (λ d. Says ((tables_in d).value index token) d)
table_answers (Expected states) d = step d (λ d. expected_by (tables_in d).expecting (map number_of states) d)
table_answers Uses_recovery d = step d (λ d. Says (is_some (tables_in d).error) d)
table_answers (Error_symbol recovery) d = step d (λ d. Says (Recovered recovery) d)
table_answers (Reduce production start states symbols) d = step d (λ d. reduce production start states symbols d)
table_answers (Simulate_reduce production) d = step d (λ d. simulate production d)
