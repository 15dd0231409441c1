-- Turns of a driver that mends an error, as moves of the machine.
use Rattle.std.proofs.Common.{◌≡◌, ℕ, zero, suc, ◌+◌, ◌-◌, ◌^◌, ℤ, pos, negsuc, ◌<◌, ◌≤◌, Bool, true, false, List, [], ◌∷◌, ◌++◌, length, take, drop, Option, Some, None, Err, refl, sym, ap, ◌∙◌, subst}
use Rattle.std.specs.Prelude.{map, slice_get, nat_lt, if◌then◌else◌, is_some}
use Rattle.std.specs.Option.{option_map}
use Rattle.std.proofs.lemmas.Bool.{le-ltb}
use Rattle.std.proofs.lemmas.List.{length-map, take-map}
use Rattle.std.proofs.lemmas.Option.{slice_get-map, slice_get_past}
use Rattle.lp_repr.specs.declared.values.Loc.{Loc}
use Rattle.lp_repr.specs.declared.values.Loc.TheVariants.{Default}
use Rattle.lp_repr.specs.declared.values.RunItem.{RunItem}
use Rattle.lp_repr.specs.declared.values.RunItem.TheVariants as item
use Rattle.lp_repr.specs.declared.values.UserError.TheVariants as user
use Rattle.lp_repr.specs.declared.values.ParseError.TheVariants as failure
use Rattle.lp_driver.specs.declared.answers.Simulated.TheVariants as simulated
use Rattle.lp_driver.specs.Values.{Text, Token, Spanned, Value, Failure, Gives, Fails, Recovered}
use Rattle.lp_driver.specs.Questions.{Stuck}
use Rattle.lp_driver.specs.DriverState as driver
use Rattle.lp_driver.specs.DriverState.{Recovering, Driver, Mode, Parsing, Reducing, Trying, Simulating, Next, last_of, with_mode}
use Rattle.lp_driver.specs.ParsingTurns as parsing
use Rattle.lp_driver.specs.RecoveryTurns as turn
use Rattle.lp_driver.specs.RecoveryTurns.{start_or, end_or, loc_or}
use Rattle.lp_machine.specs.declared.lookup.Act.{Act}
use Rattle.lp_machine.specs.declared.lookup.Act.TheVariants.{Shift, ReduceBy, NoAction}
use Rattle.lp_machine.specs.declared.lookup.Rule.{Rule}
use Rattle.lp_machine.specs.declared.config.Mending.{Mending}
use Rattle.lp_machine.specs.declared.config.Left.TheVariants.{Pulls, Looks, Drops, Checks}
use Rattle.lp_machine.specs.declared.config.Config.{Config}
use Rattle.lp_machine.specs.declared.verdict.Verdict.{Verdict}
use Rattle.lp_machine.specs.declared.verdict.Verdict.TheVariants.{Yes, No, GoesOn}
use Rattle.lp_machine.specs.declared.by_tables.TableDefinition.{TableDefinition}
use Rattle.lp_machine.specs.ReductionSpan.{below}
use Rattle.lp_machine.specs.Tables.{Tables}
use Rattle.lp_machine.specs.ExpectedList.{action_on, action_on_error, goto_from, verdict, verdict_by, verdict_by_rule, reduced_stack, pushed}
use Rattle.lp_machine.specs.Recovery.{shift_of, error_start, error_end, mended_at, dropped_with}
use Rattle.lp_machine.specs.RecoveryLaw.{error_shift}
use Rattle.lp_machine.specs.StackMachine.{with_left, over, lookahead_start, lookahead_terminal}
use Rattle.lp_machine.specs.Moves.{asks_error, mends_by, looks, ready, reduces_or, reducible}
use Rattle.lp_machine.specs.Move.{token_in, checked, checks, mends, drops_or, looks_below, looks_by, taken_after, drops, moves}
use Rattle.lp_machine.specs.TableAnswers.{number_of, entry_of, state_of, tables_in, with_steps, with_calls, with_stuck, located_item, step_from, says_or_sticks, simulated_by, reduce, table_answers}
use Rattle.lp_machine.specs.DriverStanding.{in_hand, mending_of, stacks_of, tries, stands}
use Rattle.lp_machine.proofs.MoreMoves.{Leads, then_leads}
use Rattle.lp_machine.proofs.KeptCalls.{mends_by_keeps, error_keeps, looks_by_keeps, mends_keeps, says, says_keeps, taken_keeps}
use Rattle.lp_machine.proofs.ExpectedLists.{chosen, at_place, past_place}
use Rattle.lp_machine.proofs.RecoveryChoice.{begins}
use Rattle.lp_machine.proofs.TurnsMove.{EndsWith, EndsIn, Fits, Follows, Goes, Comes, before, halts, asked, if_says, enters, at_state, listed, reduction_goes, top_number, below_numbers, one_number}

same_start : (l : Option driver.Lookahead) → driver.lookahead_start l ≡ lookahead_start (in_hand l)
same_start None = refl
same_start (Some l) = refl

first_after : {A : Type 0} (xs : List A) (n : ℕ) → slice_get (drop n xs) 0 ≡ slice_get xs n
first_after [] zero = refl
first_after [] (suc n) = refl
first_after (x ∷ xs) zero = refl
first_after (x ∷ xs) (suc n) = first_after xs n

-- the state at a place, by its number
number_at : (states : List ℤ) (place : ℕ) (s : ℤ) → slice_get states place ≡ Some s → slice_get (map number_of states) place ≡ Some (number_of s)
number_at states place s h = slice_get-map number_of states place ∙ ap (option_map number_of) h

-- a prefix with one state more, by numbers
prefix_numbers : (n to : ℕ) (states : List ℤ) → map number_of (take n states ++ pos to ∷ []) ≡ take n (map number_of states) ++ to ∷ []
prefix_numbers n to states = one_number (take n states) to ∙ ap (λ ns. ns ++ to ∷ []) (sym (take-map number_of n states))

-- the prefixes of a stack are looked at
looks_lead : (t : Tables) (items : List RunItem) (c0 : Config) (states : List ℤ)
    → Leads t items (looks t items (record c0 { states = map number_of states; left = Pulls })) (looks_below t items (record c0 { states = map number_of states; left = Pulls }) (length states))
looks_lead t items c0 states =
    let c = record c0 { states = map number_of states; left = Pulls } in
    let b = begins t items c (length (map number_of states)) in
    (b.0, b.1 ∙ ap (looks_below t items c) (length-map states number_of))

module _ (items : List RunItem) (w : Driver Value) (taken : ℕ) (rest : w.items ≡ drop taken items) (begin : w.begin ≡ Default) where
  abbrev here : TableDefinition → Recovering → Config
  here d r = stacks_of w d.calls taken r.lookahead (Some (mending_of r))

  -- on, with the same stacks
  on : (r : Recovering) → EndsWith r.lookahead w.items → (d : TableDefinition) (c : Config) (mode : Mode) → ((rest : List RunItem) → EndsWith r.lookahead rest → EndsIn mode rest)
      → Leads (tables_in d) items c (stands (tables_in d) items (with_mode w mode) d.calls taken) → Follows (tables_in d) items c (driver.Goes_on (with_mode w mode) d)
  on r ends d c mode in_mode leads = Goes (with_mode w mode) d taken refl (record { rest = rest; ends = in_mode w.items ends; begin = begin }) leads

  -- the reductions that an error triggers
  ready_mending : (l : Option driver.Lookahead) → EndsWith l w.items → (t : Tables) (c0 : Config) (m : Mending)
      → ready t items (record c0 { lookahead = in_hand l; mending = Some m; taken = taken; left = Pulls }) ≡ asks_error t items (record c0 { lookahead = in_hand l; mending = Some m; taken = taken; left = Pulls })
  ready_mending None ends t c0 m = chosen (nat_lt taken (length items)) false _ _ (le-ltb taken (length items) (past_place items taken (sym rest ∙ ends)))
  ready_mending (Some l) ends t c0 m = refl

  reducing_does : (r : Recovering) → EndsWith r.lookahead w.items → (d : TableDefinition) (act : Act)
      → Follows (tables_in d) items (mends_by (tables_in d) items (here d r) act) (driver.on_answer (says_or_sticks (entry_of act) d) (turn.reducing_by table_answers w r))
  reducing_does r ends d act =
      let t = tables_in d in
      let c = here d r in
      let go = turn.reducing_by table_answers w r in
      enters t items _ act d go (mends_by_keeps t items c act)
      (λ is. subst (λ a. Follows t items (mends_by t items c a) (go (pos 0) d)) (sym is) (on r ends d (looks t items c) (Trying r (length w.states)) (λ l e. e) (looks_lead t items c w.states)))
      (λ to is. subst (λ a. Follows t items (mends_by t items c a) (go (pos (suc to)) d)) (sym is) (on r ends d (looks t items c) (Trying r (length w.states)) (λ l e. e) (looks_lead t items c w.states)))
      (λ p is. subst (λ a. Follows t items (mends_by t items c a) (go (negsuc p) d)) (sym is)
      (asked t items _ d.left d _ _ (mends_by_keeps t items c (ReduceBy p)) (λ k.
      subst (λ start. Follows t items (reduces_or t items c (looks t items c) (reducible t items c p)) (driver.on_answer (reduce (pos p) start w.states w.symbols (with_steps d k)) (λ x d'. parsing.ends_or table_answers w (Reducing r) x x.ending d'))) (sym (same_start r.lookahead))
      (reduction_goes items w taken r.lookahead (Some (mending_of r)) (with_steps d k) (λ x d'. parsing.ends_or table_answers w (Reducing r) x x.ending d') (record {
        valued = λ calls value. Comes (Gives value) (with_calls (with_steps d k) calls) _ (0, refl) refl refl;
        failed = λ calls f. Comes (Fails f) (with_calls (with_steps d k) calls) _ (0, refl) refl refl;
        goes = λ calls states symbols. Goes _ (with_calls (with_steps d k) calls) taken refl (record { rest = rest; ends = ends; begin = begin })
            (0, ready_mending r.lookahead ends t (stacks_of (record w { states = states; symbols = symbols }) (d.calls ++ calls) taken r.lookahead (Some (mending_of r))) (mending_of r));
      }) (looks t items c) refl p))))

  pub reducing_goes : (r : Recovering) → EndsWith r.lookahead w.items → (d : TableDefinition) → Follows (tables_in d) items (asks_error (tables_in d) items (here d r)) (turn.reducing table_answers w r d)
  reducing_goes r ends d =
      let t = tables_in d in
      let same = error_keeps t items (here d r) in
      at_state t items _ (last_of w.states) d _ same (λ s top.
      asked t items _ d.left d _ _ same (λ k.
      subst (λ o. Follows t items (mends_by t items (here d r) (action_on_error t o)) (driver.on_answer (says_or_sticks (entry_of (action_on_error t (Some (number_of s)))) (with_steps d k)) (turn.reducing_by table_answers w r))) (sym (top_number w.states s top))
      (reducing_does r ends (with_steps d k) (action_on_error t (Some (number_of s))))))

  -- a place of the stack
  place_does : (r : Recovering) → EndsWith r.lookahead w.items → (d : TableDefinition) (place : ℕ) (act : Act) → error_shift (tables_in d) (here d r) place ≡ shift_of act
      → Follows (tables_in d) items (looks_by (tables_in d) items (here d r) place (shift_of act))
      (driver.on_answer (says_or_sticks (entry_of act) d) (λ e d'. driver.Goes_on (turn.tried w r place (driver.shift_of e)) d'))
  place_does r ends d place act shift =
      let t = tables_in d in
      let c = here d r in
      let go : ℤ → TableDefinition → Next Value TableDefinition = λ e d'. driver.Goes_on (turn.tried w r place (driver.shift_of e)) d' in
      enters t items _ act d go (looks_by_keeps t items c place (shift_of act))
      (λ is. subst (λ a. Follows t items (looks_by t items c place (shift_of a)) (go (pos 0) d)) (sym is) (on r ends d (looks_below t items c place) (Trying r place) (λ l e. e) (0, refl)))
      (λ to is. subst (λ a. Follows t items (looks_by t items c place (shift_of a)) (go (pos (suc to)) d)) (sym is)
      (on r ends d (looks_by t items c place (Some to)) (Simulating r place (take (place + 1) w.states ++ pos to ∷ [])) (λ l e. e)
      (0, sym (ap (tries t items c place (map number_of (take (place + 1) w.states ++ pos to ∷ []))) (shift ∙ ap shift_of is) ∙ ap (λ ns. tries t items c place ns (Some to)) (prefix_numbers (place + 1) to w.states)))))
      (λ p is. subst (λ a. Follows t items (looks_by t items c place (shift_of a)) (go (negsuc p) d)) (sym is) (on r ends d (looks_below t items c place) (Trying r place) (λ l e. e) (0, refl)))

  place_goes : (r : Recovering) → EndsWith r.lookahead w.items → (d : TableDefinition) (place : ℕ)
      → Follows (tables_in d) items (looks_below (tables_in d) items (here d r) (suc place)) (turn.trying table_answers w r place d)
  place_goes r ends d place =
      let t = tables_in d in
      let c = here d r in
      at_state t items _ (slice_get w.states place) d _ refl (λ s at.
      asked t items _ d.left d _ _ refl (λ k.
      let e = number_at w.states place s at in
      before t items _ (looks_by t items c place (shift_of (action_on_error t (Some (number_of s))))) _
      (suc zero, ap (λ o. looks_by t items c place (shift_of (action_on_error t o))) e)
      (place_does r ends (with_steps d k) place (action_on_error t (Some (number_of s))) (ap (λ o. shift_of (action_on_error t o)) e))))

  -- the error symbol
  span_same : (r : Recovering) (place : ℕ) (x : Value)
      → turn.error_span table_answers w r place x
      ≡ (error_start (drop place w.symbols) r.dropped (take place w.symbols), x, error_end (drop place w.symbols) r.dropped (lookahead_start (in_hand r.lookahead)) (error_start (drop place w.symbols) r.dropped (take place w.symbols)))
  span_same r place x =
      let e : turn.error_start_of r w.symbols place w.begin ≡ error_start (drop place w.symbols) r.dropped (take place w.symbols) = ap (λ b. start_or (slice_get w.symbols place) (start_or (slice_get r.dropped 0) (end_or (last_of (take place w.symbols)) b))) begin
      ∙ ap (λ o. start_or o (start_or (slice_get r.dropped 0) (end_or (last_of (take place w.symbols)) Default))) (sym (first_after w.symbols place)) in
      ap (λ (s : Loc). (s, x, end_or (last_of r.dropped) (end_or (last_of (drop place w.symbols)) (loc_or (driver.lookahead_start r.lookahead) s)))) e
      ∙ ap (λ (o : Option Loc). (error_start (drop place w.symbols) r.dropped (take place w.symbols), x, end_or (last_of r.dropped) (end_or (last_of (drop place w.symbols)) (loc_or o (error_start (drop place w.symbols) r.dropped (take place w.symbols)))))) (same_start r.lookahead)

  mended_goes : (r : Recovering) (d : TableDefinition) (place to : ℕ)
      → Follows (tables_in d) items (mends (tables_in d) items (here d r) (Some (mending_of r)) place to) (turn.mended table_answers w r place (pos to) d)
  mended_goes r d place to =
      let t = tables_in d in
      let c = here d r in
      let x : Value = Recovered (record { error = r.error; dropped = r.dropped }) in
      let at = lookahead_start (in_hand r.lookahead) in
      asked t items _ d.left d _ _ (mends_keeps t items c (Some (mending_of r)) place to) (λ k.
      Goes _ (with_steps d k) taken refl (record { rest = rest; ends = tt; begin = begin }) (
        0,
        sym (ap (λ ns. ready t items (record c { states = ns; triples = take place w.symbols ++ turn.error_span table_answers w r place x ∷ []; mending = None })) (prefix_numbers (place + 1) to w.states)
            ∙ ap (λ (s : Spanned Value). ready t items (record c { states = take (place + 1) c.states ++ to ∷ []; triples = take place w.symbols ++ s ∷ []; mending = None })) (span_same r place x)),
      ))

  -- a place that serves
  served_does : (r : Recovering) → EndsWith r.lookahead w.items → (d : TableDefinition) (place : ℕ) (act : Act)
      → Follows (tables_in d) items (says (tables_in d) items (here d r) place (shift_of act) Yes)
      (driver.on_answer (says_or_sticks (entry_of act) d) (λ e d'. turn.mended_by table_answers w r place (driver.shift_of e) d'))
  served_does r ends d place act =
      let t = tables_in d in
      let c = here d r in
      let go : ℤ → TableDefinition → Next Value TableDefinition = λ e d'. turn.mended_by table_answers w r place (driver.shift_of e) d' in
      enters t items _ act d go (says_keeps t items c place (shift_of act) Yes)
      (λ is. subst (λ a. Follows t items (says t items c place (shift_of a) Yes) (go (pos 0) d)) (sym is) (on r ends d (looks_below t items c place) (Trying r place) (λ l e. e) (0, refl)))
      (λ to is. subst (λ a. Follows t items (says t items c place (shift_of a) Yes) (go (pos (suc to)) d)) (sym is) (mended_goes r d place to))
      (λ p is. subst (λ a. Follows t items (says t items c place (shift_of a) Yes) (go (negsuc p) d)) (sym is) (on r ends d (looks_below t items c place) (Trying r place) (λ l e. e) (0, refl)))

  served_at : (r : Recovering) → EndsWith r.lookahead w.items → (d : TableDefinition) (place : ℕ)
      → Follows (tables_in d) items (says (tables_in d) items (here d r) place (error_shift (tables_in d) (here d r) place) Yes) (turn.serves_at table_answers w r place d)
  served_at r ends d place =
      let t = tables_in d in
      let c = here d r in
      let same = says_keeps t items c place (error_shift t c place) Yes in
      at_state t items _ (slice_get w.states place) d _ same (λ s at.
      asked t items _ d.left d _ _ same (λ k.
      subst (λ o. Follows t items (says t items c place (shift_of (action_on_error t o)) Yes) (driver.on_answer (says_or_sticks (entry_of (action_on_error t (Some (number_of s)))) (with_steps d k)) (λ e d'. turn.mended_by table_answers w r place (driver.shift_of e) d'))) (sym (number_at w.states place s at))
      (served_does r ends (with_steps d k) place (action_on_error t (Some (number_of s))))))

  served_or : (d : TableDefinition) (c : Config) → c.calls ≡ d.calls → (b : Bool) (next : Next Value TableDefinition) → Follows (tables_in d) items c next → Follows (tables_in d) items c (if b then driver.Halted Stuck d else next)
  served_or d c same true next h = halts (tables_in d) items c Stuck d same
  served_or d c same false next h = h

  served : (r : Recovering) → EndsWith r.lookahead w.items → (d : TableDefinition) (place : ℕ)
      → Follows (tables_in d) items (says (tables_in d) items (here d r) place (error_shift (tables_in d) (here d r) place) Yes) (turn.serves table_answers w r place d)
  served r ends d place = served_or d _ (says_keeps (tables_in d) items (here d r) place (error_shift (tables_in d) (here d r) place) Yes) (nat_lt (length w.symbols) place) _ (served_at r ends d place)

  -- a trial of the lookahead on a stack
  no_below : (t : Tables) (c : Config) (place : ℕ) (o : Option ℕ) → says t items c place o No ≡ looks_below t items c place
  no_below t c place None = refl
  no_below t c place (Some to) = refl

  goes_on_leads : (t : Tables) (c0 : Config) (place : ℕ) (o : Option ℕ) (stack : List ℕ) → Leads t items (says t items (with_left c0 Pulls) place o (GoesOn stack)) (tries t items (with_left c0 Pulls) place stack o)
  goes_on_leads t c0 place None stack = (0, refl)
  goes_on_leads t c0 place (Some to) stack = (suc zero, refl)

  unserved : (r : Recovering) → EndsWith r.lookahead w.items → (d : TableDefinition) (place : ℕ)
      → Follows (tables_in d) items (says (tables_in d) items (here d r) place (error_shift (tables_in d) (here d r) place) No) (driver.Goes_on (with_mode w (Trying r place)) d)
  unserved r ends d place =
      let t = tables_in d in
      let c = here d r in
      on r ends d (says t items c place (error_shift t c place) No) (Trying r place) (λ l e. e) (0, no_below t c place (error_shift t c place))

  goto_known : (r : Recovering) → EndsWith r.lookahead w.items → (d : TableDefinition) (place : ℕ) (stack : List ℤ) (n : ℕ) (b : Bool)
      → Follows (tables_in d) items (says (tables_in d) items (here d r) place (error_shift (tables_in d) (here d r) place) (GoesOn (map number_of stack ++ n ∷ [])))
      (driver.on_answer (says_or_sticks (if b then Some (pos n) else None) d) (λ g d'. driver.Goes_on (with_mode w (Simulating r place (stack ++ g ∷ []))) d'))
  goto_known r ends d place stack n true =
      let t = tables_in d in
      let c = here d r in
      let f = goes_on_leads t c place (error_shift t c place) (map number_of stack ++ n ∷ []) in
      on r ends d _ (Simulating r place (stack ++ pos n ∷ [])) (λ l e. e) (f.0, f.1 ∙ ap (λ ns. tries t items c place ns (error_shift t c place)) (sym (one_number stack n)))
  goto_known r ends d place stack n false =
      halts (tables_in d) items _ Stuck (with_stuck d) (says_keeps (tables_in d) items (here d r) place (error_shift (tables_in d) (here d r) place) (GoesOn (map number_of stack ++ n ∷ [])))

  goto_goes : (r : Recovering) → EndsWith r.lookahead w.items → (d : TableDefinition) (place : ℕ) (stack : List ℤ) (o : Option ℕ)
      → Follows (tables_in d) items (says (tables_in d) items (here d r) place (error_shift (tables_in d) (here d r) place) (pushed (tables_in d) (map number_of stack) o))
      (driver.on_answer (says_or_sticks (state_of o) d) (λ g d'. driver.Goes_on (with_mode w (Simulating r place (stack ++ g ∷ []))) d'))
  goto_goes r ends d place stack None =
      halts (tables_in d) items _ Stuck (with_stuck d) (says_keeps (tables_in d) items (here d r) place (error_shift (tables_in d) (here d r) place) No)
  goto_goes r ends d place stack (Some n) = goto_known r ends d place stack n (nat_lt n (2 ^ 31))

  reduced_goes : (r : Recovering) → EndsWith r.lookahead w.items → (d : TableDefinition) (place : ℕ) (stack : List ℤ) (rule : Rule) (b : Bool)
      → Follows (tables_in d) items
      (says (tables_in d) items (here d r) place (error_shift (tables_in d) (here d r) place) (if b then Yes else reduced_stack (tables_in d) (map number_of stack) rule))
      (turn.simulated table_answers w r place stack (if b then simulated.Accept else simulated.Reduce rule.length rule.nonterminal) d)
  reduced_goes r ends d place stack rule true = served r ends d place
  reduced_goes r ends d place stack rule false =
      let t = tables_in d in
      let c = here d r in
      let keep = below rule.length stack in
      let go : ℤ → TableDefinition → Next Value TableDefinition = λ g d'. driver.Goes_on (with_mode w (Simulating r place (keep ++ g ∷ []))) d' in
      let same = says_keeps t items c place (error_shift t c place) (reduced_stack t (map number_of stack) rule) in
      served_or d _ same (nat_lt (length stack) rule.length) _ (at_state t items _ (last_of keep) d _ same (λ s top.
      asked t items _ d.left d _ _ same (λ k.
      let e : reduced_stack t (map number_of stack) rule ≡ pushed t (map number_of keep) (t.goto (number_of s) rule.nonterminal) = ap (λ ns. pushed t ns (goto_from t (last_of ns) rule.nonterminal)) (below_numbers rule.length stack)
      ∙ ap (λ o. pushed t (map number_of keep) (goto_from t o rule.nonterminal)) (top_number keep s top) in
      subst (λ v. Follows t items (says t items c place (error_shift t c place) v) (driver.on_answer (says_or_sticks (state_of (t.goto (number_of s) rule.nonterminal)) (with_steps d k)) go)) (sym e)
      (goto_goes r ends (with_steps d k) place keep (t.goto (number_of s) rule.nonterminal)))))

  rule_goes : (r : Recovering) → EndsWith r.lookahead w.items → (d : TableDefinition) (place : ℕ) (stack : List ℤ) (o : Option Rule)
      → Follows (tables_in d) items (says (tables_in d) items (here d r) place (error_shift (tables_in d) (here d r) place) (verdict_by_rule (tables_in d) (map number_of stack) o))
      (driver.on_answer (says_or_sticks (simulated_by o) d) (λ x d'. turn.simulated table_answers w r place stack x d'))
  rule_goes r ends d place stack None =
      halts (tables_in d) items _ Stuck (with_stuck d) (says_keeps (tables_in d) items (here d r) place (error_shift (tables_in d) (here d r) place) No)
  rule_goes r ends d place stack (Some rule) = reduced_goes r ends d place stack rule rule.is_start

  simulating_does : (r : Recovering) → EndsWith r.lookahead w.items → (d : TableDefinition) (place : ℕ) (stack : List ℤ) (act : Act)
      → Follows (tables_in d) items (says (tables_in d) items (here d r) place (error_shift (tables_in d) (here d r) place) (verdict_by (tables_in d) (map number_of stack) act))
      (driver.on_answer (says_or_sticks (entry_of act) d) (λ e d'. turn.simulating_by table_answers w r place stack (driver.production_of e) (driver.shift_of e) d'))
  simulating_does r ends d place stack act =
      let t = tables_in d in
      let c = here d r in
      let go : ℤ → TableDefinition → Next Value TableDefinition = λ e d'. turn.simulating_by table_answers w r place stack (driver.production_of e) (driver.shift_of e) d' in
      let from : Act → Config = λ a. says t items c place (error_shift t c place) (verdict_by t (map number_of stack) a) in
      enters t items _ act d go (says_keeps t items c place (error_shift t c place) (verdict_by t (map number_of stack) act))
      (λ is. subst (λ a. Follows t items (from a) (go (pos 0) d)) (sym is) (unserved r ends d place))
      (λ to is. subst (λ a. Follows t items (from a) (go (pos (suc to)) d)) (sym is) (served r ends d place))
      (λ p is. subst (λ a. Follows t items (from a) (go (negsuc p) d)) (sym is)
      (asked t items _ d.left d _ _ (says_keeps t items c place (error_shift t c place) (verdict_by t (map number_of stack) (ReduceBy p))) (λ k. rule_goes r ends (with_steps d k) place stack (t.rule p))))

  tries_says : (t : Tables) (c : Config) (place : ℕ) (stack : List ℕ) (o : Option ℕ) → tries t items c place stack o ≡ says t items c place o (verdict t stack (lookahead_terminal c.lookahead))
  tries_says t c place stack None = refl
  tries_says t c place stack (Some to) = refl

  tries_keeps : (t : Tables) (items : List RunItem) (c : Config) (place : ℕ) (stack : List ℕ) (o : Option ℕ) → (tries t items c place stack o).calls ≡ c.calls
  tries_keeps t items c place stack None = says_keeps t items c place None No
  tries_keeps t items c place stack (Some to) = says_keeps t items c place (Some to) (verdict t stack (lookahead_terminal c.lookahead))

  asks_same : (l : Option driver.Lookahead) (s : ℤ) (d : TableDefinition)
      → turn.asks_action table_answers l s d ≡ step_from d.left d (λ d. says_or_sticks (entry_of (action_on (tables_in d) (Some (number_of s)) (lookahead_terminal (in_hand l)))) d)
  asks_same None s d = refl
  asks_same (Some l) s d = refl

  pub simulating_goes : (r : Recovering) → EndsWith r.lookahead w.items → (d : TableDefinition) (place : ℕ) (stack : List ℤ)
      → Follows (tables_in d) items (tries (tables_in d) items (here d r) place (map number_of stack) (error_shift (tables_in d) (here d r) place)) (turn.simulating table_answers w r place stack d)
  simulating_goes r ends d place stack =
      let t = tables_in d in
      let c = here d r in
      let terminal = lookahead_terminal (in_hand r.lookahead) in
      let go : ℤ → TableDefinition → Next Value TableDefinition = λ e d'. turn.simulating_by table_answers w r place stack (driver.production_of e) (driver.shift_of e) d' in
      at_state t items _ (last_of stack) d _ (tries_keeps t items c place (map number_of stack) (error_shift t c place)) (λ s top.
      let e : tries t items c place (map number_of stack) (error_shift t c place) ≡ says t items c place (error_shift t c place) (verdict_by t (map number_of stack) (action_on t (Some (number_of s)) terminal)) = tries_says t c place (map number_of stack) (error_shift t c place)
      ∙ ap (λ o. says t items c place (error_shift t c place) (verdict_by t (map number_of stack) (action_on t o terminal))) (top_number stack s top) in
      subst (λ x. Follows t items x (driver.on_answer (turn.asks_action table_answers r.lookahead s d) go)) (sym e)
      (subst (λ x. Follows t items (says t items c place (error_shift t c place) (verdict_by t (map number_of stack) (action_on t (Some (number_of s)) terminal))) (driver.on_answer x go)) (sym (asks_same r.lookahead s d))
      (asked t items _ d.left d _ _ (says_keeps t items c place (error_shift t c place) (verdict_by t (map number_of stack) (action_on t (Some (number_of s)) terminal))) (λ k. simulating_does r ends (with_steps d k) place stack (action_on t (Some (number_of s)) terminal)))))

  -- a token is dropped
  last_goes : (r : Recovering) → EndsWith r.lookahead w.items → r.lookahead ≡ None → (d : TableDefinition) (n : ℕ)
      → Follows (tables_in d) items (looks_below (tables_in d) items (here d r) n) (turn.trying_last table_answers w r n d)
  last_goes r ends none d zero =
      let t = tables_in d in
      Comes (Fails r.error) d (over (here d r) (Err r.error)) (0, ap (λ l. drops_or t items (here d r) (Some (mending_of r)) (in_hand l)) none) refl refl
  last_goes r ends none d (suc place) = place_goes r ends d place

  taken_goes : (r : Recovering) (more : List RunItem) → more ≡ drop (taken + 1) items → (d : TableDefinition) (token : Spanned Token) (o : Option ℕ)
      → Follows (tables_in d) items (taken_after (tables_in d) items (record (stacks_of w d.calls taken None (Some (mending_of r))) { taken = taken + 1; last = token.2 }) token o)
      (parsing.taken table_answers (with_mode w (Trying r (length w.states))) more token o d)
  taken_goes r more after d token None =
      listed items (record (stacks_of w d.calls taken None (Some (mending_of r))) { taken = taken + 1; last = token.2 }) w.states d (Some token) false _ refl (λ found k.
      Comes (Fails (failure.UnrecognizedToken token found)) (with_steps d k) _ (0, refl) refl refl)
  taken_goes r more after d token (Some i) =
      let l : driver.Lookahead = record { token = token; index = i } in
      Goes _ d (taken + 1) refl (record { rest = after; ends = tt; begin = begin })
      (looks_lead (tables_in d) items (record (stacks_of w d.calls (taken + 1) (Some l) (Some (mending_of r))) { last = token.2 }) w.states)

  drop_goes : (r : Recovering) (more : List RunItem) → more ≡ drop (taken + 1) items → (d : TableDefinition) (next : RunItem)
      → Follows (tables_in d) items (drops (tables_in d) items (stacks_of w d.calls taken None (Some (mending_of r))) (Some next))
      (parsing.pulled table_answers (with_mode w (Trying r (length w.states))) more (located_item (tables_in d).is_located next) d)
  drop_goes r more after d (item.Fault name) = Comes (Fails (failure.User (user.Fault name))) d _ (0, refl) refl refl
  drop_goes r more after d (item.Token a token b) =
      let at = token_in (tables_in d) items a token b in
      asked (tables_in d) items _ d.left d _ _ (taken_keeps (tables_in d) items (record (stacks_of w d.calls taken None (Some (mending_of r))) { taken = taken + 1; last = at.2 }) at ((tables_in d).terminal token)) (λ k.
      taken_goes r more after (with_steps d k) (token_in (tables_in d) items a token b) ((tables_in d).terminal token))

  dropping_goes : (r : Recovering) (l : driver.Lookahead) (d : TableDefinition) (more : List RunItem) → w.items ≡ more
      → Follows (tables_in d) items (drops (tables_in d) items (here d (turn.dropped_with table_answers r l)) (slice_get items taken)) (turn.dropping table_answers w r l more d)
  dropping_goes r l d [] none =
      let t = tables_in d in
      let r' = turn.dropped_with table_answers r l in
      let e = slice_get_past items taken (past_place items taken (sym rest ∙ none)) in
      subst (λ o. Follows t items (drops t items (here d r') o) (turn.dropping table_answers w r l [] d)) (sym e)
      (before t items _ _ _ (looks_lead t items (here d r') w.states) (last_goes r' none refl d (length w.states)))
  dropping_goes r l d (next ∷ more) is =
      let t = tables_in d in
      let r' = turn.dropped_with table_answers r l in
      let place = at_place items taken next more (sym rest ∙ is) in
      subst (λ o. Follows t items (drops t items (here d r') o) (turn.dropping table_answers w r l (next ∷ more) d)) (sym place.0) (drop_goes r' more (sym place.1) d next)

  exhausted_goes : (r : Recovering) (l : Option driver.Lookahead) → r.lookahead ≡ l → (d : TableDefinition)
      → Follows (tables_in d) items (drops_or (tables_in d) items (here d r) (Some (mending_of r)) (in_hand l)) (turn.exhausted table_answers w r l d)
  exhausted_goes r None is d = Comes (Fails r.error) d (over (here d r) (Err r.error)) (0, refl) refl refl
  exhausted_goes r (Some l) is d =
      let t = tables_in d in
      let e : dropped_with (mending_of r) (in_hand r.lookahead) ≡ mending_of (turn.dropped_with table_answers r l) = ap (λ o. dropped_with (mending_of r) (in_hand o)) is in
      before t items _ _ _ (suc zero, ap (λ (m : Mending). drops t items (record (here d r) { mending = Some m; lookahead = None }) (slice_get items taken)) e) (dropping_goes r l d w.items refl)

  pub trying_goes : (r : Recovering) → EndsWith r.lookahead w.items → (d : TableDefinition) (places : ℕ)
      → Follows (tables_in d) items (looks_below (tables_in d) items (here d r) places) (turn.trying_from table_answers w r places d)
  trying_goes r ends d zero = exhausted_goes r r.lookahead refl d
  trying_goes r ends d (suc place) = place_goes r ends d place
