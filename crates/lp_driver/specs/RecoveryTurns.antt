-- The turns of a driver that mends an error: it makes the reductions that the error triggers, drops
-- tokens from the front, and tries the places of its stack from the top.
use Rattle.std.specs.Prelude.{ℕ, zero, suc, ◌+◌, ◌-◌, ℤ, pos, negsuc, List, [], ◌∷◌, ◌++◌, length, take, drop, nat_lt, if◌then◌else◌, Option, Some, None, slice_get}
use Rattle.lp_repr.specs.declared.values.Loc.{Loc}
use Rattle.lp_repr.specs.declared.values.RunItem.{RunItem}
use Rattle.lp_driver.specs.declared.answers.Simulated.{Simulated}
use Rattle.lp_driver.specs.declared.answers.Simulated.TheVariants.{Accept, Reduce as Reduces}
use Rattle.lp_driver.specs.Values.{Spanned, Ending}
use Rattle.lp_driver.specs.Questions.{Answers, To_triple, Action, Eof_action, Error_action, Goto, Simulate_reduce, Error_symbol, Reduce, Said, Halts, Stuck}
use Rattle.lp_driver.specs.DriverState.{Lookahead, Recovering, Driver, Mode, Parsing, Reducing, Trying, Simulating, Next, Goes_on, Ends, Halted, on_answer, with_state, last_of, top, with_mode, lookahead_start, shift_of, production_of}
use Rattle.lp_driver.specs.ParsingTurns.{fails, ends_or, pulled}

-- the start of the first, else this; the end of the last, else this
abbrev pub start_or : {A : Type 0} → Option (Spanned A) → Loc → Loc
start_or None a = a
start_or (Some x) a = x.0

abbrev pub end_or : {A : Type 0} → Option (Spanned A) → Loc → Loc
end_or None a = a
end_or (Some x) a = x.2

abbrev pub loc_or : Option Loc → Loc → Loc
loc_or None a = a
loc_or (Some b) a = b

-- where the error symbol starts: at the first popped symbol, else the first dropped token, else
-- after the new top, else where a parse begins
abbrev pub error_start_of : {S : Type 0} → Recovering → List (Spanned S) → ℕ → Loc → Loc
error_start_of r symbols place begin =
    start_or (slice_get symbols place) (start_or (slice_get r.dropped 0) (end_or (last_of (take place symbols)) begin))

-- where it ends: with the last dropped token, else the last popped symbol, else before the
-- lookahead, else where it starts
abbrev pub error_end_of : {S : Type 0} → Recovering → List (Spanned S) → ℕ → Loc → Loc
error_end_of r symbols place start = end_or (last_of r.dropped) (end_or (last_of (drop place symbols)) (loc_or (lookahead_start r.lookahead) start))

-- where the error is shifted at a place, the lookahead is tried on the stack up to it
abbrev pub tried : {S : Type 0} → Driver S → Recovering → ℕ → Option ℤ → Driver S
tried w r place (Some to) = with_mode w (Simulating r place (take (place + 1) w.states ++ to ∷ []))
tried w r place None = with_mode w (Trying r place)

module _ {S D : Type 0} (answers : Answers S D) where
  -- the reductions that an error triggers
  abbrev pub reducing_by : Driver S → Recovering → ℤ → D → Next S D
  reducing_by w r (negsuc p) d =
      on_answer (answers (Reduce (pos p) (lookahead_start r.lookahead) w.states w.symbols) d) (λ x d'. ends_or answers w (Reducing r) x x.ending d')
  reducing_by w r (pos n) d = Goes_on (with_mode w (Trying r (length w.states))) d

  abbrev pub reducing : Driver S → Recovering → D → Next S D
  reducing w r d = with_state (top w) d (λ s. on_answer (answers (Error_action s) d) (λ e d'. reducing_by w r e d'))

  abbrev pub trying : Driver S → Recovering → ℕ → D → Next S D
  trying w r place d =
      with_state (slice_get w.states place) d (λ s. on_answer (answers (Error_action s) d) (λ e d'. Goes_on (tried w r place (shift_of e)) d'))

  -- the top place first, with no token in hand: if there is none, the first error is the answer
  abbrev pub trying_last : Driver S → Recovering → ℕ → D → Next S D
  trying_last w r zero d = fails answers r.error d
  trying_last w r (suc place) d = trying w r place d

  abbrev pub dropped_with : Recovering → Lookahead → Recovering
  dropped_with r l = record { error = r.error; dropped = r.dropped ++ l.token ∷ []; lookahead = None }

  -- no place serves: the lookahead is dropped, and the next one is taken
  abbrev pub dropping : Driver S → Recovering → Lookahead → List RunItem → D → Next S D
  dropping w r l [] d = trying_last w (dropped_with r l) (length w.states) d
  dropping w r l (item ∷ items) d =
      on_answer (answers (To_triple item) d) (λ it d'. pulled answers (with_mode w (Trying (dropped_with r l) (length w.states))) items it d')

  abbrev pub exhausted : Driver S → Recovering → Option Lookahead → D → Next S D
  exhausted w r None d = fails answers r.error d
  exhausted w r (Some l) d = dropping w r l w.items d

  abbrev pub trying_from : Driver S → Recovering → ℕ → D → Next S D
  trying_from w r zero d = exhausted w r r.lookahead d
  trying_from w r (suc place) d = trying w r place d

  abbrev pub error_span : Driver S → Recovering → ℕ → S → Spanned S
  error_span w r place x =
      (error_start_of r w.symbols place w.begin, x, error_end_of r w.symbols place (error_start_of r w.symbols place w.begin))

  -- the stacks are cut, and the error symbol is pushed
  abbrev pub mended : Driver S → Recovering → ℕ → ℤ → D → Next S D
  mended w r place to d = on_answer (answers (Error_symbol (record { error = r.error; dropped = r.dropped })) d) (λ x d'. Goes_on (record {
    states = take (place + 1) w.states ++ to ∷ [];
    symbols = take place w.symbols ++ error_span w r place x ∷ [];
    items = w.items;
    mode = Parsing r.lookahead;
    begin = w.begin;
    last = w.last;
  }) d')

  -- this place serves, if the error is shifted there when that is asked again
  abbrev pub mended_by : Driver S → Recovering → ℕ → Option ℤ → D → Next S D
  mended_by w r place (Some to) d = mended w r place to d
  mended_by w r place None d = Goes_on (with_mode w (Trying r place)) d

  abbrev pub serves_at : Driver S → Recovering → ℕ → D → Next S D
  serves_at w r place d =
      with_state (slice_get w.states place) d (λ s. on_answer (answers (Error_action s) d) (λ e d'. mended_by w r place (shift_of e) d'))

  abbrev pub serves : Driver S → Recovering → ℕ → D → Next S D
  serves w r place d = if nat_lt (length w.symbols) place then Halted Stuck d else serves_at w r place d

  -- a reduction on the stack that is tried
  abbrev pub simulated : Driver S → Recovering → ℕ → List ℤ → Simulated → D → Next S D
  simulated w r place stack Accept d = serves w r place d
  simulated w r place stack (Reduces pop nt) d =
      if nat_lt (length stack) pop then Halted Stuck d
      else with_state (last_of (take (length stack - pop) stack)) d (λ s. on_answer (answers (Goto s nt) d) (λ g d'.
      Goes_on (with_mode w (Simulating r place (take (length stack - pop) stack ++ g ∷ []))) d'))

  -- what an entry says of the stack that is tried
  abbrev pub simulating_by : Driver S → Recovering → ℕ → List ℤ → Option ℤ → Option ℤ → D → Next S D
  simulating_by w r place stack (Some p) shift d = on_answer (answers (Simulate_reduce p) d) (λ x d'. simulated w r place stack x d')
  simulating_by w r place stack None (Some to) d = serves w r place d
  simulating_by w r place stack None None d = Goes_on (with_mode w (Trying r place)) d

  -- what the lookahead does in a state
  abbrev pub asks_action : Option Lookahead → ℤ → D → Said ℤ D
  asks_action None s d = answers (Eof_action s) d
  asks_action (Some l) s d = answers (Action s l.index) d

  abbrev pub simulating : Driver S → Recovering → ℕ → List ℤ → D → Next S D
  simulating w r place stack d =
      with_state (last_of stack) d (λ s. on_answer (asks_action r.lookahead s d) (λ e d'. simulating_by w r place stack (production_of e) (shift_of e) d'))
