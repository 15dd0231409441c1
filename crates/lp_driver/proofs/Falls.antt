-- Each turn that goes on lowers the steps left, so enough turns are as good as more.
use Rattle.std.proofs.Common.{◌≡◌, ℕ, zero, suc, ◌<◌, ◌≤◌, ℤ, pos, negsuc, List, [], ◌∷◌, Option, Some, None, Bool, true, false, refl, sym, ap, ◌∙◌, subst, arith, Result, Ok, Err}
use Rattle.std.specs.Prelude.{slice_get, nat_lt, if◌then◌else◌, length, take, ◌-◌}
use Rattle.lp_repr.specs.declared.values.RunItem.{RunItem}
use Rattle.lp_repr.specs.declared.values.RunItem.TheVariants as item
use Rattle.lp_repr.specs.declared.values.ParseError.TheVariants as failure
use Rattle.lp_repr.specs.declared.values.Outcome.{Outcome}
use Rattle.lp_repr.specs.declared.values.Outcome.TheVariants as outcome
use Rattle.lp_driver.specs.declared.answers.Simulated.{Simulated}
use Rattle.lp_driver.specs.declared.answers.Simulated.TheVariants.{Accept, Reduce as Reduces}
use Rattle.lp_driver.specs.declared.answers.Stop.{Stop}
use Rattle.lp_driver.specs.declared.answers.Stop.TheVariants as stop
use Rattle.lp_driver.specs.Values.{Spanned, Token, Failure, Ending, Gives, Fails}
use Rattle.lp_driver.specs.Questions.{Answers, Said, Says, Halts, Stuck, Reduced, Lowers, IsLawful, To_triple, Token_to_index, Action, Eof_action, Token_to_symbol, Expected, Uses_recovery, Error_action, Goto, Simulate_reduce, Error_symbol, Reduce}
use Rattle.lp_driver.specs.DriverState.{Lookahead, Driver, Next, Goes_on, Ends, Halted, on_answer, with_state, top, Recovering, Mode, Parsing, Reducing, Trying, Simulating, lookahead_start, shift_of, production_of, last_of, with_mode}
use Rattle.lp_driver.specs.ParsingTurns.{fails, error_or, unrecognized_token, unrecognized_eof, error_at_token, error_at_end, after_reduction, ends_or, by_action, by_eof_action, at_token, at_end, taken, pulled, pull, parsing}
use Rattle.lp_driver.specs.RecoveryTurns.{reducing_by, reducing, trying, trying_last, dropped_with, dropping, exhausted, trying_from, mended, mended_by, serves_at, serves, simulated, simulating_by, asks_action, simulating}
use Rattle.lp_driver.specs.Turns.{turn_in, turn, goes_on, turns, Ended, Turned}

module _ {S D : Type 0} (answers : Answers S D) (left : D → ℕ) (is_stuck : D → Bool) (law : IsLawful answers left is_stuck) where
  -- where it goes on, fewer than n steps are left
  abbrev pub Falls : ℕ → Next S D → Type 0
  Falls n (Goes_on w d) = left d < n
  Falls n (Ends e d) = Unit {0}
  Falls n (Halted why d) = Unit {0}

  asked : {A : Type 0} (n before : ℕ) (said : Said A D) (go : A → D → Next S D) → before ≤ n → Lowers left is_stuck false before said
      → ((x : A) (d : D) → left d < n → Falls n (go x d)) → Falls n (on_answer said go)
  asked n before (Says x d) go le h k = k x d (omega arith)
  asked n before (Halts why d) go le h k = tt

  asked_free : {A : Type 0} (n before : ℕ) (said : Said A D) (go : A → D → Next S D) → before ≤ n → Lowers left is_stuck true before said
      → ((x : A) (d : D) → left d ≤ n → Falls n (go x d)) → Falls n (on_answer said go)
  asked_free n before (Says x d) go le h k = k x d (omega arith)
  asked_free n before (Halts why d) go le h k = tt

  -- where it goes on with what was asked for, with fewer than n steps left
  abbrev Onward : ℕ → (Failure → D → Next S D) → Type 0
  Onward n go = (f : Failure) (d : D) → left d < n → Falls n (go f d)

  fails_onward : (n : ℕ) → Onward n (fails answers)
  fails_onward n f d h = tt

  or_onward : (n : ℕ) (w : Driver S) (l : Option Lookahead) (b : Bool) → Onward n (error_or answers w l b)
  or_onward n w l true f d h = h
  or_onward n w l false f d h = tt

  unrecognized_falls : (n : ℕ) (w : Driver S) (t : Spanned Token) (go : Failure → D → Next S D) (d : D) → left d ≤ n → Onward n go → Falls n (unrecognized_token answers w t go d)
  unrecognized_falls n w t go d le on = asked n (left d) (answers (Expected w.states) d) _ le (law (Expected w.states) d) (λ l d' h. on (failure.UnrecognizedToken t l) d' h)

  eof_falls : (n : ℕ) (w : Driver S) (go : Failure → D → Next S D) (d : D) → left d ≤ n → Onward n go → Falls n (unrecognized_eof answers w go d)
  eof_falls n w go d le on = asked n (left d) (answers (Expected w.states) d) _ le (law (Expected w.states) d) (λ l d' h. on (failure.UnrecognizedEof w.last l) d' h)

  error_falls : (n : ℕ) (w : Driver S) (l : Lookahead) (d : D) → left d ≤ n → Falls n (error_at_token answers w l d)
  error_falls n w l d le = asked n (left d) (answers Uses_recovery d) _ le (law Uses_recovery d) (λ b d' h. unrecognized_falls n w l.token _ d' (omega arith) (or_onward n w (Some l) b))

  error_end_falls : (n : ℕ) (w : Driver S) (d : D) → left d ≤ n → Falls n (error_at_end answers w d)
  error_end_falls n w d le = asked n (left d) (answers Uses_recovery d) _ le (law Uses_recovery d) (λ b d' h. eof_falls n w _ d' (omega arith) (or_onward n w None b))

  after_falls : (n : ℕ) (w : Driver S) (l : Lookahead) (r : Reduced S) (e : Option Ending) (d : D) → left d < n → Falls n (after_reduction answers w l r e d)
  after_falls n w l r None d h = h
  after_falls n w l r (Some (Gives v)) d h = tt
  after_falls n w l r (Some (Fails e)) d h = tt

  ends_or_falls : (n : ℕ) (w : Driver S) (mode : Mode) (r : Reduced S) (e : Option Ending) (d : D) → left d < n → Falls n (ends_or answers w mode r e d)
  ends_or_falls n w mode r None d h = h
  ends_or_falls n w mode r (Some e) d h = tt

  action_falls : (n : ℕ) (w : Driver S) (l : Lookahead) (e : ℤ) (d : D) → left d ≤ n → Falls n (by_action answers w l e d)
  action_falls n w l (pos zero) d le = error_falls n w l d le
  action_falls n w l (pos (suc to)) d le = asked n (left d) (answers (Token_to_symbol l.index l.token.1) d) _ le (law (Token_to_symbol l.index l.token.1) d) (λ x d' h. h)
  action_falls n w l (negsuc p) d le =
      asked n (left d) (answers (Reduce (pos p) (Some l.token.0) w.states w.symbols) d) _ le (law (Reduce (pos p) (Some l.token.0) w.states w.symbols) d)
      (λ r d' h. after_falls n w l r r.ending d' h)

  eof_action_falls : (n : ℕ) (w : Driver S) (e : ℤ) (d : D) → left d ≤ n → Falls n (by_eof_action answers w e d)
  eof_action_falls n w (pos k) d le = error_end_falls n w d le
  eof_action_falls n w (negsuc p) d le =
      asked n (left d) (answers (Reduce (pos p) None w.states w.symbols) d) _ le (law (Reduce (pos p) None w.states w.symbols) d)
      (λ r d' h. ends_or_falls n w (Parsing None) r r.ending d' h)

  top_falls : (n : ℕ) (s : Option ℤ) (d : D) (go : ℤ → Next S D) → ((s : ℤ) → Falls n (go s)) → Falls n (with_state s d go)
  top_falls n None d go h = tt
  top_falls n (Some s) d go h = h s

  at_token_falls : (w : Driver S) (l : Lookahead) (d : D) → Falls (left d) (at_token answers w l d)
  at_token_falls w l d = top_falls (left d) (top w) d _
      (λ s. asked (left d) (left d) (answers (Action s l.index) d) _ (omega arith) (law (Action s l.index) d) (λ e d' h. action_falls (left d) w l e d' (omega arith)))

  at_end_falls : (w : Driver S) (d : D) → Falls (left d) (at_end answers w d)
  at_end_falls w d = top_falls (left d) (top w) d _
      (λ s. asked (left d) (left d) (answers (Eof_action s) d) _ (omega arith) (law (Eof_action s) d) (λ e d' h. eof_action_falls (left d) w e d' (omega arith)))

  taken_falls : (n : ℕ) (w : Driver S) (items : List RunItem) (t : Spanned Token) (i : Option ℕ) (d : D) → left d < n → Falls n (taken answers w items t i d)
  taken_falls n w items t None d h = unrecognized_falls n w t (fails answers) d (omega arith) (fails_onward n)
  taken_falls n w items t (Some i) d h = h

  pulled_falls : (n : ℕ) (w : Driver S) (items : List RunItem) (it : RunItem) (d : D) → left d ≤ n → Falls n (pulled answers w items it d)
  pulled_falls n w items (item.Fault name) d le = tt
  pulled_falls n w items (item.Token a v b) d le =
      asked n (left d) (answers (Token_to_index v) d) _ le (law (Token_to_index v) d) (λ i d' h. taken_falls n w items (a, v, b) i d' h)

  pull_falls : (w : Driver S) (items : List RunItem) (d : D) → Falls (left d) (pull answers w items d)
  pull_falls w [] d = at_end_falls w d
  pull_falls w (item ∷ items) d = asked_free (left d) (left d) (answers (To_triple item) d) _ (omega arith) (law (To_triple item) d) (λ it d' h. pulled_falls (left d) w items it d' h)

  reducing_by_falls : (n : ℕ) (w : Driver S) (r : Recovering) (e : ℤ) (d : D) → left d < n → Falls n (reducing_by answers w r e d)
  reducing_by_falls n w r (pos k) d h = h
  reducing_by_falls n w r (negsuc p) d h =
      asked n (left d) (answers (Reduce (pos p) (lookahead_start r.lookahead) w.states w.symbols) d) _ (omega arith) (law (Reduce (pos p) (lookahead_start r.lookahead) w.states w.symbols) d)
      (λ x d' h'. ends_or_falls n w (Reducing r) x x.ending d' h')

  reducing_falls : (w : Driver S) (r : Recovering) (d : D) → Falls (left d) (reducing answers w r d)
  reducing_falls w r d = top_falls (left d) (top w) d _
      (λ s. asked (left d) (left d) (answers (Error_action s) d) _ (omega arith) (law (Error_action s) d) (λ e d' h. reducing_by_falls (left d) w r e d' h))

  trying_falls : (w : Driver S) (r : Recovering) (place : ℕ) (d : D) → Falls (left d) (trying answers w r place d)
  trying_falls w r place d = top_falls (left d) (slice_get w.states place) d _
      (λ s. asked (left d) (left d) (answers (Error_action s) d) _ (omega arith) (law (Error_action s) d) (λ e d' h. h))

  last_falls : (w : Driver S) (r : Recovering) (places : ℕ) (d : D) → Falls (left d) (trying_last answers w r places d)
  last_falls w r zero d = tt
  last_falls w r (suc place) d = trying_falls w r place d

  dropping_falls : (w : Driver S) (r : Recovering) (l : Lookahead) (items : List RunItem) (d : D) → Falls (left d) (dropping answers w r l items d)
  dropping_falls w r l [] d = last_falls w (dropped_with answers r l) (length w.states) d
  dropping_falls w r l (item ∷ items) d = asked_free (left d) (left d) (answers (To_triple item) d) _ (omega arith) (law (To_triple item) d) (λ it d' h. pulled_falls (left d) (with_mode w (Trying (dropped_with answers r l) (length w.states))) items it d' h)

  exhausted_falls : (w : Driver S) (r : Recovering) (l : Option Lookahead) (d : D) → Falls (left d) (exhausted answers w r l d)
  exhausted_falls w r None d = tt
  exhausted_falls w r (Some l) d = dropping_falls w r l w.items d

  from_falls : (w : Driver S) (r : Recovering) (places : ℕ) (d : D) → Falls (left d) (trying_from answers w r places d)
  from_falls w r zero d = exhausted_falls w r r.lookahead d
  from_falls w r (suc place) d = trying_falls w r place d

  either_falls : (n : ℕ) (b : Bool) (x y : Next S D) → Falls n x → Falls n y → Falls n (if b then x else y)
  either_falls n true x y h k = h
  either_falls n false x y h k = k

  mended_falls : (n : ℕ) (w : Driver S) (r : Recovering) (place : ℕ) (to : ℤ) (d : D) → left d ≤ n → Falls n (mended answers w r place to d)
  mended_falls n w r place to d le =
      asked n (left d) (answers (Error_symbol (record { error = r.error; dropped = r.dropped })) d) _ le (law (Error_symbol (record { error = r.error; dropped = r.dropped })) d) (λ x d' h. h)

  mended_by_falls : (n : ℕ) (w : Driver S) (r : Recovering) (place : ℕ) (to : Option ℤ) (d : D) → left d < n → Falls n (mended_by answers w r place to d)
  mended_by_falls n w r place (Some to) d h = mended_falls n w r place to d (omega arith)
  mended_by_falls n w r place None d h = h

  serves_falls : (n : ℕ) (w : Driver S) (r : Recovering) (place : ℕ) (d : D) → left d ≤ n → Falls n (serves answers w r place d)
  serves_falls n w r place d le = either_falls n (nat_lt (length w.symbols) place) (Halted Stuck d) (serves_at answers w r place d) tt
      (top_falls n (slice_get w.states place) d _ (λ s. asked n (left d) (answers (Error_action s) d) _ le (law (Error_action s) d)
      (λ e d' h. mended_by_falls n w r place (shift_of e) d' h)))

  simulated_falls : (n : ℕ) (w : Driver S) (r : Recovering) (place : ℕ) (stack : List ℤ) (x : Simulated) (d : D) → left d ≤ n → Falls n (simulated answers w r place stack x d)
  simulated_falls n w r place stack Accept d le = serves_falls n w r place d le
  simulated_falls n w r place stack (Reduces pop nt) d le = either_falls n (nat_lt (length stack) pop) (Halted Stuck d) _ tt
      (top_falls n (last_of (take (length stack - pop) stack)) d _ (λ s. asked n (left d) (answers (Goto s nt) d) _ le (law (Goto s nt) d) (λ g d' h. h)))

  simulating_by_falls : (n : ℕ) (w : Driver S) (r : Recovering) (place : ℕ) (stack : List ℤ) (p shift : Option ℤ) (d : D) → left d < n → Falls n (simulating_by answers w r place stack p shift d)
  simulating_by_falls n w r place stack None None d h = h
  simulating_by_falls n w r place stack None (Some to) d h = serves_falls n w r place d (omega arith)
  simulating_by_falls n w r place stack (Some p) shift d h =
      asked n (left d) (answers (Simulate_reduce p) d) _ (omega arith) (law (Simulate_reduce p) d) (λ x d' h'. simulated_falls n w r place stack x d' (omega arith))

  asks_lowers : (l : Option Lookahead) (s : ℤ) (d : D) → Lowers left is_stuck false (left d) (asks_action answers l s d)
  asks_lowers None s d = law (Eof_action s) d
  asks_lowers (Some l) s d = law (Action s l.index) d

  simulating_falls : (w : Driver S) (r : Recovering) (place : ℕ) (stack : List ℤ) (d : D) → Falls (left d) (simulating answers w r place stack d)
  simulating_falls w r place stack d = top_falls (left d) (last_of stack) d _
      (λ s. asked (left d) (left d) (asks_action answers r.lookahead s d) _ (omega arith) (asks_lowers r.lookahead s d) (λ e d' h. simulating_by_falls (left d) w r place stack (production_of e) (shift_of e) d' h))

  parsing_falls : (w : Driver S) (l : Option Lookahead) (d : D) → Falls (left d) (parsing answers w l d)
  parsing_falls w None d = pull_falls w w.items d
  parsing_falls w (Some l) d = at_token_falls w l d

  in_falls : (w : Driver S) (mode : Mode) (d : D) → Falls (left d) (turn_in answers w mode d)
  in_falls w (Parsing l) d = parsing_falls w l d
  in_falls w (Reducing r) d = reducing_falls w r d
  in_falls w (Trying r places) d = from_falls w r places d
  in_falls w (Simulating r place stack) d = simulating_falls w r place stack d

  pub turn_falls : (w : Driver S) (d : D) → Falls (left d) (turn answers w d)
  turn_falls w d = in_falls w w.mode d

  -- the same from wherever fewer than n steps are left
  abbrev pub SameBelow : ℕ → (Driver S → D → Next S D) → (Driver S → D → Next S D) → Type 0
  SameBelow n f g = (w : Driver S) (d : D) → left d < n → f w d ≡ g w d

  same_on : (n : ℕ) (next : Next S D) (f g : Driver S → D → Next S D) → Falls n next → SameBelow n f g → goes_on answers next f ≡ goes_on answers next g
  same_on n (Goes_on w d) f g h same = same w d h
  same_on n (Ends e d) f g h same = refl
  same_on n (Halted why d) f g h same = refl

  -- with more turns than steps left, the number of turns makes no difference
  pub enough : (n m : ℕ) (w : Driver S) (d : D) → left d < n → left d < m → turns answers n w d ≡ turns answers m w d
  enough zero m w d h k = absurd (omega arith)
  enough (suc n) zero w d h k = absurd (omega arith)
  enough (suc n) (suc m) w d h k =
      same_on (left d) (turn answers w d) (turns answers n) (turns answers m) (turn_falls w d) (λ w' d' f. enough n m w' d' (omega arith) (omega arith))

  -- a turn that goes on, and then enough turns
  pub one_more : (n : ℕ) (w : Driver S) (d : D) (w' : Driver S) (d' : D) → turn answers w d ≡ Goes_on w' d' → left d < n → turns answers n w d ≡ turns answers n w' d'
  one_more zero w d w' d' e h = absurd (omega arith)
  one_more (suc n) w d w' d' e h =
      let f : left d' < left d = subst (Falls (left d)) e (turn_falls w d) in
      ap (λ next. goes_on answers next (turns answers n)) e ∙ enough n (suc n) w' d' (omega arith) (omega arith)

  pub falls : (w : Driver S) (d : D) (w' : Driver S) (d' : D) → turn answers w d ≡ Goes_on w' d' → left d' < left d
  falls w d w' d' e = subst (Falls (left d)) e (turn_falls w d)

  -- a run that has ended stays where it is
  pub ended : (n : ℕ) (r : Result Outcome Stop) (w : Driver S) (d d' : D) → left d < n → Ended r d' (turn answers w d) → Ended r d' (turns answers n w d)
  ended zero r w d d' h e = absurd (omega arith)
  ended (suc n) (Ok (outcome.Value v)) w d d' h e = ap (λ next. goes_on answers next (turns answers n)) e
  ended (suc n) (Ok (outcome.Error x)) w d d' h e = ap (λ next. goes_on answers next (turns answers n)) e
  ended (suc n) (Ok outcome.Spent) w d d' h e = e
  ended (suc n) (Err stop.Spent) w d d' h e = ap (λ next. goes_on answers next (turns answers n)) e
  ended (suc n) (Err stop.Stuck) w d d' h e = ap (λ next. goes_on answers next (turns answers n)) e
  ended (suc n) (Err stop.Memory) w d d' h e = tt

-- what a turn says where it goes on
pub went_on : {S D : Type 0} (r : Result (Option Outcome) Stop) (o : Option Outcome) (w : Driver S) (d : D) (next : Next S D) → r ≡ Ok o → o ≡ None → Turned r w d next → next ≡ Goes_on w d
went_on r o w d next e f h = subst (λ (r : Result (Option Outcome) Stop). Turned r w d next) (e ∙ ap (λ (o : Option Outcome). Ok o) f) h

-- and where it ends
pub came_to : {S D : Type 0} (r : Result (Option Outcome) Stop) (o : Option Outcome) (x : Outcome) (w : Driver S) (d : D) (next : Next S D) → r ≡ Ok o → o ≡ Some x → Turned r w d next → Ended (Ok x) d next
came_to r o x w d next e f h = subst (λ (r : Result (Option Outcome) Stop). Turned r w d next) (e ∙ ap (λ (o : Option Outcome). Ok o) f) h

pub along : {S D : Type 0} (r : Result Outcome Stop) (d : D) (a b : Next S D) → a ≡ b → Ended r d b → Ended r d a
along r d a b e h = subst (λ (x : Next _ _). Ended r d x) (sym e) h
