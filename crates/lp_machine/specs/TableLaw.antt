-- A definition by tables keeps the law of a definition.
use Rattle.std.proofs.Common.{◌≡◌, ℕ, zero, suc, ℤ, pos, negsuc, List, Option, Some, None, Bool, true, false, Result, Ok, Err, refl, length, arith}
use Rattle.std.specs.Prelude.{nat_lt, map, if◌then◌else◌}
use Rattle.lp_repr.specs.declared.values.Loc.{Loc}
use Rattle.lp_driver.specs.declared.answers.Expecting.{Expecting}
use Rattle.lp_driver.specs.declared.answers.Expecting.TheVariants.{Trial, Actions}
use Rattle.lp_driver.specs.Values.{Text, Spanned, Value, Failure}
use Rattle.lp_driver.specs.DriverState.{last_of}
use Rattle.lp_driver.specs.Questions.{IsLawful, Lowers, To_triple, Start_location, Start_state, Token_to_index, Action, Error_action, Eof_action, Goto, Token_to_symbol, Expected, Uses_recovery, Error_symbol, Reduce, Simulate_reduce, Said, Says, Halts, Spent, Stuck}
use Rattle.lp_machine.specs.declared.lookup.Rule.{Rule}
use Rattle.lp_machine.specs.declared.calls.Acted.{Acted}
use Rattle.lp_machine.specs.declared.by_tables.TableDefinition.{TableDefinition}
use Rattle.lp_machine.specs.ReductionSpan.{below, popped, empty_place, span}
use Rattle.lp_machine.specs.ExpectedList.{action_on, action_on_error, goto_from}
use Rattle.lp_machine.specs.ExpectedLaw.{names_tried}
use Rattle.lp_machine.specs.TableAnswers.{number_of, entry_of, state_of, tables_in, with_steps, with_calls, sticks, or_sticks, step_from, says_or_sticks, or_spent, expected_by, simulated_by, simulate, goes_to, reduced_by, reduces_with, reduce_by, reduce, left_of, stuck_of, table_answers}

-- an answer with n steps left, Stuck with these, or Spent with none
abbrev pub Keeps : {A : Type 0} → ℕ → Said A TableDefinition → Type 0
Keeps n (Says x d) = left_of d ≡ n
Keeps n (Halts Spent d) = left_of d ≡ 0
Keeps n (Halts Stuck d) = (left_of d ≡ n) × (stuck_of d ≡ true)

or_keeps : {A X : Type 0} (o : Option X) (d : TableDefinition) (go : X → Said A TableDefinition) → ((x : X) → Keeps (left_of d) (go x)) → Keeps (left_of d) (or_sticks o d go)
or_keeps None d go h = (refl, refl)
or_keeps (Some x) d go h = h x

says_keeps : {A : Type 0} (o : Option A) (d : TableDefinition) → Keeps (left_of d) (says_or_sticks o d)
says_keeps o d = or_keeps o d _ (λ x. refl)

after_step : {A : Type 0} (said : Said A TableDefinition) (k : ℕ) → Keeps k said → Lowers left_of stuck_of false (suc k) said
after_step (Says x d) k h = omega arith
after_step (Halts Spent d) k h = h
after_step (Halts Stuck d) k h = (omega arith, h.1)

step_lowers : {A : Type 0} (n : ℕ) (d : TableDefinition) (go : TableDefinition → Said A TableDefinition) → d.left ≡ n → ((d : TableDefinition) → Keeps (left_of d) (go d))
    → Lowers left_of stuck_of false (left_of d) (step_from n d go)
step_lowers zero d go e h = e
step_lowers (suc k) d go e h = rw e (after_step (go (with_steps d k)) k (h (with_steps d k)))

either_keeps : {A : Type 0} (n : ℕ) (b : Bool) (x y : Said A TableDefinition) → Keeps n x → Keeps n y → Keeps n (if b then x else y)
either_keeps n true x y h k = h
either_keeps n false x y h k = k

spent_keeps : (o : Option (List Text)) (d : TableDefinition) → Keeps (left_of d) (or_spent o d)
spent_keeps None d = refl
spent_keeps (Some names) d = refl

expected_keeps : (e : Expecting) (states : List ℕ) (d : TableDefinition) → Keeps (left_of d) (expected_by e states d)
expected_keeps Actions states d = refl
expected_keeps Trial states d = spent_keeps (names_tried (tables_in d) d.left states 0 (tables_in d).names) d

goes_keeps : (rule : Rule) (symbol : Spanned Value) (states : List ℤ) (symbols : List (Spanned Value)) (d : TableDefinition) → Keeps (left_of d) (goes_to rule symbol states symbols d)
goes_keeps rule symbol states symbols d = or_keeps (state_of (goto_from (tables_in d) (last_of (map number_of (below rule.length states))) rule.nonterminal)) d _ (λ to. refl)

reduced_keeps : (rule : Rule) (r : Result Value Failure) (empty : Loc) (states : List ℤ) (symbols : List (Spanned Value)) (d : TableDefinition) → Keeps (left_of d) (reduced_by rule r empty states symbols d)
reduced_keeps rule (Err f) empty states symbols d = refl
reduced_keeps rule (Ok value) empty states symbols d =
    let at = span (popped rule.length symbols) empty in
    either_keeps (left_of d) rule.is_start _ _ refl (goes_keeps rule (at.0, value, at.1) states symbols d)

with_keeps : (rule : Rule) (acted : Acted) (empty : Loc) (states : List ℤ) (symbols : List (Spanned Value)) (d : TableDefinition) → Keeps (left_of d) (reduces_with rule acted empty states symbols d)
with_keeps rule acted empty states symbols d = reduced_keeps rule acted.result empty states symbols (with_calls d acted.calls)

by_keeps : (rule : Rule) (start : Option Loc) (states : List ℤ) (symbols : List (Spanned Value)) (d : TableDefinition) → Keeps (left_of d) (reduce_by rule start states symbols d)
by_keeps rule start states symbols d =
    let empty = empty_place start symbols in
    either_keeps (left_of d) (nat_lt (length symbols) rule.length) (sticks d) _ (refl, refl) (with_keeps rule ((tables_in d).act rule.action (popped rule.length symbols) (empty, empty) (length d.calls)) empty states symbols d)

reduce_keeps : (p : ℤ) (start : Option Loc) (states : List ℤ) (symbols : List (Spanned Value)) (d : TableDefinition) → Keeps (left_of d) (reduce p start states symbols d)
reduce_keeps (negsuc p) start states symbols d = (refl, refl)
reduce_keeps (pos p) start states symbols d = or_keeps ((tables_in d).rule p) d _ (λ rule. by_keeps rule start states symbols d)

simulate_keeps : (p : ℤ) (d : TableDefinition) → Keeps (left_of d) (simulate p d)
simulate_keeps (negsuc p) d = (refl, refl)
simulate_keeps (pos p) d = says_keeps (simulated_by ((tables_in d).rule p)) d

pub table_law : IsLawful table_answers left_of stuck_of
table_law (To_triple item) d = omega arith
table_law Start_location d = step_lowers d.left d _ refl (λ d. refl)
table_law Start_state d = step_lowers d.left d _ refl (λ d. refl)
table_law (Token_to_index token) d = step_lowers d.left d _ refl (λ d. refl)
table_law (Action state index) d = step_lowers d.left d _ refl (λ d. says_keeps (entry_of (action_on (tables_in d) (Some (number_of state)) (Some index))) d)
table_law (Error_action state) d = step_lowers d.left d _ refl (λ d. says_keeps (entry_of (action_on_error (tables_in d) (Some (number_of state)))) d)
table_law (Eof_action state) d = step_lowers d.left d _ refl (λ d. says_keeps (entry_of (action_on (tables_in d) (Some (number_of state)) None)) d)
table_law (Goto state nonterminal) d = step_lowers d.left d _ refl (λ d. says_keeps (state_of ((tables_in d).goto (number_of state) nonterminal)) d)
table_law (Token_to_symbol index token) d = step_lowers d.left d _ refl (λ d. refl)
table_law (Expected states) d = step_lowers d.left d _ refl (λ d. expected_keeps (tables_in d).expecting (map number_of states) d)
table_law Uses_recovery d = step_lowers d.left d _ refl (λ d. refl)
table_law (Error_symbol recovery) d = step_lowers d.left d _ refl (λ d. refl)
table_law (Reduce production start states symbols) d = step_lowers d.left d _ refl (λ d. reduce_keeps production start states symbols d)
table_law (Simulate_reduce production) d = step_lowers d.left d _ refl (λ d. simulate_keeps production d)
