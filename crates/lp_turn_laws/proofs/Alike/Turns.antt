-- Turns of a driver over a definition that answers by the tables, as counted moves of the machine.
-- That a driver over a definition by tables makes the machine's moves (lp_machine) counts neither steps nor moves, so these proofs go turn by turn too.
use Rattle.std.proofs.Common.{◌≡◌, ℕ, zero, suc, ◌+◌, ◌-◌, ◌*◌, ◌<◌, ◌≤◌, ℤ, pos, Bool, true, false, List, [], ◌∷◌, ◌++◌, length, get_or, map, take, drop, Option, Some, None, Result, Ok, Err, refl, sym, ap, ◌∙◌, subst, ⊎_elim, arith}
use Rattle.std.specs.Prelude.{is_some, nat_lt, slice_get, if◌then◌else◌}
use Rattle.std.specs.Option.{option_map}
use Rattle.std.proofs.lemmas.Bool.{le-ltb}
use Rattle.std.proofs.lemmas.Bool.Decides.{nat_tests}
use Rattle.std.proofs.lemmas.List.{length-map, map-append, take-map}
use Rattle.std.proofs.lemmas.Option.{same_Some, slice_get-get_or, slice_get-map, slice_get_past, slice_get_within}
use Rattle.lp_repr.specs.declared.lr1.Lr1State.{Lr1State}
use Rattle.lp_repr.specs.declared.numbering.SymbolNumber.{SymbolNumber}
use Rattle.lp_repr.specs.declared.numbering.SymbolNumber.TheVariants as by_number
use Rattle.lp_repr.specs.declared.repr.Grammar.{Grammar}
use Rattle.lp_repr.specs.declared.values.Loc.{Loc}
use Rattle.lp_repr.specs.declared.values.Loc.TheVariants.{Default}
use Rattle.lp_repr.specs.declared.values.Recovery.{Recovery}
use Rattle.lp_repr.specs.declared.values.RunItem.{RunItem}
use Rattle.lp_repr.specs.declared.values.RunItem.TheVariants as item
use Rattle.lp_repr.specs.declared.values.UserError.TheVariants as user
use Rattle.lp_repr.specs.declared.values.ParseError.TheVariants as failure
use Rattle.lp_driver.specs.declared.answers.Expecting.{Expecting}
use Rattle.lp_driver.specs.declared.answers.Expecting.TheVariants.{Trial}
use Rattle.lp_driver.specs.declared.answers.Simulated.{Simulated}
use Rattle.lp_driver.specs.declared.answers.Simulated.TheVariants as simulated
use Rattle.lp_driver.specs.DriverState.{Lookahead, Recovering, Driver, Mode, Parsing, Reducing, Trying, Simulating, Next, Goes_on, Ends, Halted, on_answer, with_state, last_of, shift_of as driver_shift, production_of}
use Rattle.lp_driver.specs.ParsingTurns as driver
use Rattle.lp_driver.specs.RecoveryTurns as recovery
use Rattle.lp_driver.specs.RecoveryTurns.{error_start_of, error_end_of}
use Rattle.lp_driver.specs.Questions.{Answers, To_triple, Token_to_index, Action, Error_action, Eof_action, Goto, Token_to_symbol, Expected, Uses_recovery, Error_symbol, Reduce, Simulate_reduce, Reduced, Said, Spent, Stuck}
use Rattle.lp_driver.specs.Turns.{turn_in, turn, goes_on, turns}
use Rattle.lp_driver.specs.Values.{Text, Token, Spanned, Value, Failure, Recovered, Ending, Gives, Fails}
use Rattle.lp_machine.specs.declared.calls.Acted.{Acted}
use Rattle.lp_machine.specs.declared.calls.Call.{Call}
use Rattle.lp_machine.specs.declared.config.Config.{Config}
use Rattle.lp_machine.specs.declared.config.Left.TheVariants.{Pulls, Shifts, Reduces, Looks, Drops, Checks}
use Rattle.lp_machine.specs.declared.config.Mending.{Mending}
use Rattle.lp_machine.specs.declared.lookup.Act.{Act}
use Rattle.lp_machine.specs.declared.lookup.Act.TheVariants.{Shift, ReduceBy, NoAction}
use Rattle.lp_machine.specs.declared.lookup.Rule.{Rule}
use Rattle.lp_machine.specs.declared.verdict.Verdict.{Verdict}
use Rattle.lp_machine.specs.declared.verdict.Verdict.TheVariants.{Yes, No, GoesOn}
use Rattle.lp_machine.specs.DriverStanding.{in_hand, mending_of}
use Rattle.lp_machine.specs.ExpectedList.{action_on, action_on_error_of, action_on_error, goto_from, pushed, reduced_stack, verdict_by_rule, verdict_by, verdict}
use Rattle.lp_machine.specs.Move.{token_in, takes, pulls, reduces_to, looks_below, mends, checked, checks, looks_by, taken_after, drops, moves}
use Rattle.lp_machine.specs.Moves.{called, calls_next, looks, reduces_or, reducible, mends_by, asks_error, errs, errs_by, no_action, does, asks, ready}
use Rattle.lp_machine.specs.Recovery.{shift_of, error_start, error_end, mended_at}
use Rattle.lp_machine.specs.ReductionSpan.{below}
use Rattle.lp_machine.specs.RunEnds.{ending_of, ended}
use Rattle.lp_machine.specs.StackMachine.{with_left, over, failure_at, lookahead_start, lookahead_terminal, reduced_triples, result_at}
use Rattle.lp_machine.specs.TableAnswers.{located_item, simulated_by}
use Rattle.lp_machine.specs.Tables.{Tables}
use Rattle.lp_machine.proofs.ExpectedLists.{chosen, within, at_place, past_place}
use Rattle.lp_machine.proofs.KeptCalls.{mends_by_keeps, errs_by_keeps, no_action_keeps, does_keeps, mends_keeps, says_keeps}
use Rattle.lp_turn_laws.specs.Paths.Over.{IsOver}
use Rattle.lp_turn_laws.specs.Paths.Standing.{IsOnPath, IsReducible}
use Rattle.lp_turn_laws.specs.Paths.Walks.{edge_at, end_of, IsPath}
use Rattle.lp_turn_laws.proofs.Paths.Acts.{machine_shifts}
use Rattle.lp_turn_laws.proofs.Paths.Moves.{last_taken}
use Rattle.lp_turn_laws.proofs.Paths.Over.{reduces, reduces_by, leads_on, trial_leads_on}
use Rattle.lp_turn_laws.proofs.Paths.Stacks.{path_top, path_length, path_push, path_take, path_under}
use Rattle.lp_turn_laws.specs.Alike.Answered.{IsFront, entry, Answered, Tells, Lacks, Listed, Lists, Short, Leaves, IsValued, IsResult, acted_on, span_of, MendsBy, AnswersBy}
use Rattle.lp_turn_laws.specs.Alike.Course.{AreKnown, IsHeld, EndsWith, Phase, Parses, Mends, Seeks, Tests, mode_in, IsMendable, ShiftsError, Fits, driver_at, machine_at, mending_at, machine_in, Stands, Leads, extra_with, extra, rate, aside, Follows, Goes, Comes, Stops}
use Rattle.lp_turn_laws.specs.Alike.Looks.{Look, begun, looks as looks_in, IsComplete}
use Rattle.lp_turn_laws.specs.Alike.Symbols.{AreAlike}
use Rattle.lp_turn_laws.proofs.Alike.Bounds.{less_bound, aside_bound, spent_bound, on_bound, stop_bound}
use Rattle.lp_turn_laws.proofs.Alike.Counted.{none, one, rest_ends, moved, both}
use Rattle.lp_turn_laws.proofs.Alike.Looked.{completed, ends_complete}
use Rattle.lp_turn_laws.proofs.Alike.Places.{below_map, same_start, as_many_values, as_many_own, below_alike, take_alike, one_more_alike, error_starts as symbol_starts, error_ends as symbol_ends}
use Rattle.lp_turn_laws.proofs.Alike.Reduced.{calls_lead, called_calls, rule_is}

-- the top of a stack as the driver has it
top_is : (stack : List ℕ) (q : ℕ) → last_of stack ≡ Some q → last_of (map pos stack) ≡ Some (pos q)
top_is stack q top = ap (λ (n : ℕ). slice_get (map pos stack) (n - 1)) (length-map stack pos) ∙ slice_get-map pos stack (length stack - 1) ∙ ap (option_map pos) top

module _ {S D U : Type 0} (answers : Answers S D) (left : D → ℕ) (seen : D → List U) (Ready : D → Type 0) (told : Call → U)
    {g : Grammar} {start : ℕ} {states : List Lr1State} {t : Tables} (over_tables : IsOver g start states t) (Is : SymbolNumber → S → Value → Type 0) (Known : Token → Type 0) (cost : ℕ)
    (by : AnswersBy answers left seen Ready told g states t Is Known cost) (trial : t.expecting ≡ Trial) (items : List RunItem) (known : AreKnown Known items) where
  abbrev pub On : ℕ → Config → D → Next S D → Type 0
  On spare c d next = Follows left seen Ready told states t Is Known cost items spare c d next

  -- turns after moves
  pub chained : (a b : Config) (m later spare : ℕ) (d after : D) (next : Next S D) → Leads t items a b m → left d + cost * later ≤ left after + cost * (rate t * m + spare) → On later b after next → On spare a d next
  chained a b m later spare d after _ l le (Goes w x c n s k h) =
      Goes w x c (m + n) s (both t items a b c m n l k) (on_bound (left d) (left after) (left x) cost (rate t) m n spare later (aside t w.mode) le h)
  chained a b m later spare d after _ l le (Comes e x j so calls) =
      let is = moved t items a b m j l in
      Comes e x (m + j) (ap (λ (c : Config). ended c.left) is ∙ so) (calls ∙ ap (λ (c : Config). map told c.calls) (sym is))
  chained a b m later spare d after _ l le (Stops x j front bound) =
      let is = moved t items a b m j l in
      Stops x (m + j) (subst (λ (c : Config). IsFront (seen x) (map told c.calls)) (sym is) front)
      (λ k e h. let r = rest_ends t items a b m k e l h in stop_bound (left d) (left after) cost (rate t) m r.0 k spare later le (bound r.0 e r.2) r.1)

  -- and after so many costs
  spent : (a b : Config) (u m later spare : ℕ) (d after : D) (next : Next S D) → Leads t items a b m → left d ≤ left after + cost * u → u + later ≤ rate t * m + spare → On later b after next → On spare a d next
  spent a b u m later spare d after next l le few on = chained a b m later spare d after next l (spent_bound (left d) (left after) cost (rate t) u m spare later le few) on

  moved_on : (a b : Config) (m later spare : ℕ) (d : D) (next : Next S D) → Leads t items a b m → later ≤ rate t * m + spare → On later b d next → On spare a d next
  moved_on a b m later spare d next l few on = spent a b 0 m later spare d d next l (omega arith) (omega arith) on

  -- a question of a turn, after which the turn goes on
  asked : {A : Type 0} (spare later : ℕ) → later < spare → (c : Config) (calls : List Call) (d : D) (Good : A → Type 0) (said : Said A D) (go : A → D → Next S D) → c.calls ≡ calls → seen d ≡ map told calls
      → ((x : A) (after : D) → Ready after → seen after ≡ map told calls → Good x → On later c after (go x after))
      → Answered left seen Ready d cost (seen d) Good said → On spare c d (on_answer said go)
  asked spare later less c calls d Good _ go same is h (Tells x after r l s good) =
      spent c c 1 0 later spare d after (go x after) (none t items c) (omega arith) (omega arith) (h x after r (s ∙ is) good)
  asked spare later less c calls d Good _ go same is h (Lacks after l front) =
      Stops after 0 (front.0, ap (map told) same ∙ sym is ∙ front.1) (λ k e over. less_bound (left d) cost 1 (rate t * k + spare) (omega arith) (omega arith))

  -- the same with the one answer that there is
  asked_for : {A : Type 0} (spare later : ℕ) → later < spare → (c : Config) (calls : List Call) (d : D) (v : A) (said : Said A D) (go : A → D → Next S D) → c.calls ≡ calls → seen d ≡ map told calls
      → ((after : D) → Ready after → seen after ≡ map told calls → On later c after (go v after))
      → Answered left seen Ready d cost (seen d) (λ x. x ≡ v) said → On spare c d (on_answer said go)
  asked_for spare later less c calls d v said go same is h a = asked spare later less c calls d (λ x. x ≡ v) said go same is (λ x after r s e. subst (λ (y : _). On later c after (go y after)) (sym e) (h after r s)) a

  -- a turn that goes on where the machine stands
  stays : (stack : List ℕ) (xs : List SymbolNumber) (mine : List (Spanned S)) (triples : List (Spanned Value)) (calls : List Call) (taken : ℕ) (last : Loc) (path : IsPath states stack xs) (alike : AreAlike Is xs mine triples)
      (phase : Phase) → Fits Known states t stack (drop taken items) phase → (d : D) → Ready d → seen d ≡ map told calls → (spare : ℕ) → aside t (mode_in phase) ≤ spare
      → On spare (machine_in t items stack triples calls taken last phase) d (Goes_on (driver_at stack mine (drop taken items) (mode_in phase) last) d)
  stays stack xs mine triples calls taken last path alike phase fits d r is spare le =
      let c = machine_in t items stack triples calls taken last phase in
      Goes (driver_at stack mine (drop taken items) (mode_in phase) last) d c 0 (record {
        stack = stack;
        symbols = xs;
        mine = mine;
        triples = triples;
        calls = calls;
        taken = taken;
        phase = phase;
        last = last;
        driver = refl;
        machine = refl;
        path = path;
        alike = alike;
        fits = fits;
        is_ready = r;
        called = is;
      }) (none t items c) (aside_bound (left d) cost (rate t) (aside t (mode_in phase)) spare le)

  -- a shift is an edge
  edge_of : (q i to : ℕ) → action_on t (Some q) (Some i) ≡ Shift to → edge_at states q (by_number.Terminal i) ≡ Some to
  edge_of q i to act =
      let e = machine_shifts g start states over_tables.tables t over_tables.known (Some q) (Some i) to act in
      let a : q ≡ e.0 = cc e.1 in
      let b : i ≡ e.2 = cc e.3 in
      ap (λ (n : ℕ). edge_at states n (by_number.Terminal i)) a ∙ ap (λ (i : ℕ). edge_at states e.0 (by_number.Terminal i)) b ∙ e.4

  -- where an error is mended, its list takes a look, or moves cost more
  look_pays : (stack : List ℕ) (e : ℕ) → t.error ≡ Some e → (n : ℕ) → IsComplete t (looks_in t stack n begun) → 4 ≤ extra t + 4 * n
  look_pays stack e some (suc n) complete = omega arith
  look_pays stack e some zero complete = by_names (length t.names) complete.1
    where
      by_names : (k : ℕ) → nat_lt 0 k ≡ false → 4 ≤ extra_with t.error k + 4 * 0
      by_names zero last_one = (let more : extra_with t.error 0 ≡ 4 = ap (λ (o : Option ℕ). extra_with o 0) some in omega (arith, more))
      by_names (suc k) last_one = absurd (grind (arith, nat_tests))

  -- ---- errors
  module _ (stack : List ℕ) (triples : List (Spanned Value)) (calls : List Call) (taken : ℕ) (hand : Option Lookahead) (mending : Option Mending) (last : Loc) (token : Option (Spanned Token)) where
    abbrev here : Config
    here = machine_at stack triples calls taken hand mending last

    -- a list that wants steps
    list_stops : (mends : Bool) (spare : ℕ) → 0 < spare → (d after : D) (n : ℕ) → seen d ≡ map told calls → left d < cost * (n + 1) → IsFront (seen after) (seen d) → ((j : ℕ) → IsComplete t (looks_in t stack j begun) → n ≤ j)
        → On spare (errs_by t items Trial here token mends) d (Halted Spent after)
    list_stops mends spare some d after n is less front least =
        Stops after 0 (front.0, ap (map told) (errs_by_keeps t items Trial here token mends) ∙ sym is ∙ front.1) (λ k e h.
        let r = ends_complete t items here token mends k begun e h in
        let le : n ≤ r.0 = least r.0 r.2 in
        let within : r.0 ≤ k = r.1 in
        less_bound (left d) cost (n + 1) (rate t * k + spare) less (omega arith))

    -- an error that isn't mended ends the run
    abbrev with_list : List Text → D → Next S D
    with_list names d = Ends (Fails (failure_at last token names)) d

    list_ends : (spare : ℕ) → 0 < spare → (d : D) (said : Said (List Text) D) → seen d ≡ map told calls → Listed left seen t cost stack d said → On spare (errs_by t items Trial here token false) d (on_answer said with_list)
    list_ends spare some d _ is (Lists n names after same complete are) =
        let c = completed t items here token false n begun complete in
        Comes (Fails (failure_at last token names)) after c.count
        (ap (λ (c : Config). ended c.left) c.leads.comes ∙ ap (λ (l : List Text). Some (Fails (failure_at last token l))) (ap (λ (l : Look). l.found) c.same ∙ sym are))
        (same ∙ is ∙ ap (λ (c : Config). map told c.calls) (sym c.leads.comes))
    list_ends spare some d _ is (Short n after less front least) = list_stops false spare some d after n is less front least

    error_ends : IsOnPath states stack → (spare : ℕ) → 0 < spare → (d : D) → Ready d → seen d ≡ map told calls → On spare (errs t items here token false) d (on_answer (answers (Expected (map pos stack)) d) with_list)
    error_ends path spare some d r is =
        subst (λ (e : Expecting). On spare (errs_by t items e here token false) d (on_answer (answers (Expected (map pos stack)) d) with_list)) (sym trial)
        (list_ends spare some d _ is (by.expected stack path d r))

    -- the looks of its list pay for it and for what is to be aside then
    abbrev Pays : ℕ → ℕ → Type 0
    Pays spare later = (n : ℕ) → IsComplete t (looks_in t stack n begun) → n + 1 + later ≤ rate t * n + spare

    -- another one goes on with its list
    abbrev mends_with : List Text → Config
    mends_with names = asks_error t items (record here { mending = Some (record { error = failure_at last token names; dropped = [] }) })

    list_mends : (spare later : ℕ) → 0 < spare → Pays spare later → (d : D) (said : Said (List Text) D) (go : List Text → D → Next S D) → seen d ≡ map told calls
        → ((names : List Text) (after : D) → Ready after → seen after ≡ map told calls → On later (mends_with names) after (go names after))
        → Listed left seen t cost stack d said → Leaves left Ready t cost stack d said → On spare (errs_by t items Trial here token true) d (on_answer said go)
    list_mends spare later some pays d _ go is h (Lists n names after same complete are) leaves =
        let c = completed t items here token true n begun complete in
        let e : names ≡ (looks_in t stack c.count begun).found = are ∙ ap (λ (l : Look). l.found) (sym c.same) in
        spent (errs_by t items Trial here token true) (mends_with (looks_in t stack c.count begun).found) (c.count + 1) c.count later spare d after (go names after) c.leads (leaves.1 c.count c.complete) (pays c.count c.complete)
        (subst (λ (l : List Text). On later (mends_with l) after (go names after)) e (h names after leaves.0 (same ∙ is)))
    list_mends spare later some pays d _ go is h (Short n after less front least) leaves = list_stops true spare some d after n is less front least

    error_mends : IsOnPath states stack → (error : ℕ) → t.error ≡ Some error → (spare later : ℕ) → 0 < spare → Pays spare later → (d : D) → Ready d → seen d ≡ map told calls → (go : List Text → D → Next S D)
        → ((names : List Text) (after : D) → Ready after → seen after ≡ map told calls → On later (mends_with names) after (go names after))
        → On spare (errs t items here token true) d (on_answer (answers (Expected (map pos stack)) d) go)
    error_mends path error is_error spare later some pays d r is go h =
        subst (λ (e : Expecting). On spare (errs_by t items e here token true) d (on_answer (answers (Expected (map pos stack)) d) go)) (sym trial)
        (list_mends spare later some pays d _ go is h (by.expected stack path d r) ((by.mending error is_error).listed stack path d r))

  -- at one place
  module _ (stack : List ℕ) (xs : List SymbolNumber) (mine : List (Spanned S)) (triples : List (Spanned Value)) (calls : List Call) (taken : ℕ) (last : Loc)
      (path : IsPath states stack xs) (alike : AreAlike Is xs mine triples) where
    abbrev on_path : IsOnPath states stack
    on_path = (xs, path)

    abbrev rest : List RunItem
    rest = drop taken items

    abbrev own : Mode → Driver S
    own mode = driver_at stack mine rest mode last

    abbrev machine : Option Lookahead → Config
    machine hand = machine_at stack triples calls taken hand None last

    -- the top state
    abbrev top : ℕ
    top = end_of 0 path.rest

    is_top : last_of stack ≡ Some top
    is_top = path_top states stack xs path

    at_top : (spare : ℕ) (c : Config) (d : D) (go : ℤ → Next S D) → On spare c d (go (pos top)) → On spare c d (with_state (last_of (map pos stack)) d go)
    at_top spare c d go on = subst (λ (o : Option ℤ). On spare c d (with_state o d go)) (sym (top_is stack top is_top)) on

    -- without an action: whether errors are mended is asked first
    error_or : (hand : Option Lookahead) (token : Option (Spanned Token)) → IsHeld Known t hand → EndsWith hand rest → (o : Option ℕ) → t.error ≡ o → (d : D) → Ready d → seen d ≡ map told calls
        → On (1 + extra t) (errs t items (machine hand) token (is_some o)) d (on_answer (answers (Expected (map pos stack)) d) (λ names x. driver.error_or answers (own (Parsing hand)) hand (is_some o) (failure_at last token names) x))
    error_or hand token held ends None none d r is = error_ends stack triples calls taken hand None last token on_path (1 + extra t) (omega arith) d r is
    error_or hand token held ends (Some e) some d r is =
        error_mends stack triples calls taken hand None last token on_path e some (1 + extra t) 4 (omega arith) (λ n complete. let more = look_pays stack e some n complete in omega (arith, more)) d r is _ (λ names x rx sx.
        stays stack xs mine triples calls taken last path alike (Mends (record { error = failure_at last token names; dropped = []; lookahead = hand })) (record { error = e; is_error = some; held = held }, ends) x rx sx 4 (omega arith))

    token_error : (l : Lookahead) → IsHeld Known t (Some l) → (d : D) → Ready d → seen d ≡ map told calls → On (2 + extra t) (no_action t items (machine (Some l))) d (driver.error_at_token answers (own (Parsing (Some l))) l d)
    token_error l held d r is =
        asked_for (2 + extra t) (1 + extra t) (omega arith) (no_action t items (machine (Some l))) calls d (is_some t.error) (answers Uses_recovery d) _ (no_action_keeps t items (machine (Some l))) is
        (λ x rx sx. error_or (Some l) (Some l.token) held tt t.error refl x rx sx)
        (by.uses_recovery d r)

    end_error : rest ≡ [] → (d : D) → Ready d → seen d ≡ map told calls → On (2 + extra t) (no_action t items (machine None)) d (driver.error_at_end answers (own (Parsing None)) d)
    end_error ends d r is =
        asked_for (2 + extra t) (1 + extra t) (omega arith) (no_action t items (machine None)) calls d (is_some t.error) (answers Uses_recovery d) _ (no_action_keeps t items (machine None)) is
        (λ x rx sx. error_or None None tt ends t.error refl x rx sx)
        (by.uses_recovery d r)

    -- ---- reductions
    -- what a driver does with a reduction that it asks for
    record Finishes (hand : Option Lookahead) (mending : Option Mending) (phase : Phase) (finish : Reduced S → Option Ending → D → Next S D) : Type 0 where
      fits : (stack : List ℕ) → Fits Known states t stack rest phase
      few : aside t (mode_in phase) ≤ 4 + extra t
      back : (stack : List ℕ) (triples : List (Spanned Value)) (calls : List Call) → ready t items (machine_at stack triples calls taken hand mending last) ≡ machine_in t items stack triples calls taken last phase
      gives : (r : Reduced S) (v : Value) (x : D) → finish r (Some (Gives v)) x ≡ Ends (ending_of (result_at mending (in_hand hand) v)) x
      fails : (r : Reduced S) (f : Failure) (x : D) → finish r (Some (Fails f)) x ≡ Ends (Fails f) x
      goes : (r : Reduced S) (x : D) → finish r None x ≡ Goes_on (driver.reduced answers (own (mode_in phase)) (mode_in phase) r) x

    module _ (hand : Option Lookahead) (mending : Option Mending) (phase : Phase) (finish : Reduced S → Option Ending → D → Next S D) (does : Finishes hand mending phase finish) (spare : ℕ) (some : 0 < spare) where
      abbrev start_at : Option Loc
      start_at = lookahead_start (in_hand hand)

      module _ (rule : Rule) (reducible : IsReducible g states stack rule) where
        abbrev acts : Acted
        acts = acted_on t rule start_at triples (length calls)

        abbrev after_calls : Config
        after_calls = machine_at stack triples (calls ++ acts.calls) taken hand mending last

        abbrev begins : Config
        begins = calls_next t items (machine_at stack triples calls taken hand mending last) rule acts.calls acts.result

        abbrev at : Loc × Loc
        at = span_of rule start_at triples

        -- a value that isn't the start's goes on
        value_goes : (value : Value) (r : Reduced S) (d x : D) → Ready x → left d ≤ left x + cost * (length acts.calls + 1) → seen x ≡ map told (calls ++ acts.calls)
            → rule.is_start ≡ false → IsValued Is t rule stack mine at value r false
            → Leads t items begins (with_left after_calls (Reduces rule value)) (length acts.calls) → On spare begins d (finish r r.ending x)
        value_goes value r d x rx le is start good leads =
            let m = leads_on over_tables stack xs rule reducible path start in
            let symbols = below rule.length mine ++ (at.0, good.symbol, at.1) ∷ [] in
            let stack' = below rule.length stack ++ m.to ∷ [] in
            let triples' = reduced_triples after_calls rule value in
            let w : driver.reduced answers (own (mode_in phase)) (mode_in phase) r ≡ driver_at stack' symbols rest (mode_in phase) last =
            ap (λ (ns : List ℤ). record { states = ns; symbols = r.symbols; items = rest; mode = mode_in phase; begin = Default; last = last }) (good.states m.to m.goto)
            ∙ ap (λ (l : List (Spanned S)). driver_at stack' l rest (mode_in phase) last) good.symbols in
            let end = ready t items (machine_at stack' triples' (calls ++ acts.calls) taken hand mending last) in
            let few = does.few in
            subst (λ (o : Option Ending). On spare begins d (finish r o x)) (sym good.ending)
            (subst (On spare begins d) (sym (does.goes r x))
            (subst (λ (w : Driver S). On spare begins d (Goes_on w x)) (sym w)
            (spent begins end (length acts.calls + 1) (length acts.calls + 1) (4 + extra t) spare d x _
            (both t items begins (with_left after_calls (Reduces rule value)) end (length acts.calls) 1 leads (one t items _ end refl (ap (reduces_to t items after_calls rule value) m.goto))) le (omega arith)
            (subst (λ (c : Config). On (4 + extra t) c x (Goes_on (driver_at stack' symbols rest (mode_in phase) last) x)) (sym (does.back stack' triples' (calls ++ acts.calls)))
            (stays stack' (below rule.length xs ++ by_number.Nonterminal rule.nonterminal ∷ []) symbols triples' (calls ++ acts.calls) taken last m.path
            (one_more_alike Is _ _ _ (below_alike Is xs mine triples alike rule.length) (by_number.Nonterminal rule.nonterminal) at.0 at.1 good.symbol value good.is)
            phase (does.fits stack') x rx is (4 + extra t) few)))))

        value_follows : (value : Value) (b : Bool) → rule.is_start ≡ b → (r : Reduced S) (d x : D) → Ready x → left d ≤ left x + cost * (length acts.calls + 1) → seen x ≡ map told (calls ++ acts.calls)
            → IsValued Is t rule stack mine at value r b
            → Leads t items begins (if b then over after_calls (result_at mending (in_hand hand) value) else with_left after_calls (Reduces rule value)) (length acts.calls)
            → On spare begins d (finish r r.ending x)
        value_follows value true start r d x rx le is good leads =
            subst (λ (o : Option Ending). On spare begins d (finish r o x)) (sym good)
            (subst (On spare begins d) (sym (does.gives r value x))
            (Comes (ending_of (result_at mending (in_hand hand) value)) x (length acts.calls) (ap (λ (c : Config). ended c.left) leads.comes) (is ∙ ap (λ (c : Config). map told c.calls) (sym leads.comes))))
        value_follows value false start r d x rx le is good leads = value_goes value r d x rx le is start good leads

        result_follows : (result : Result Value Failure) (r : Reduced S) (d x : D) → Ready x → left d ≤ left x + cost * (length acts.calls + 1) → seen x ≡ map told (calls ++ acts.calls)
            → IsResult Is t rule stack mine at result r → Leads t items begins (called t items after_calls rule result) (length acts.calls) → On spare begins d (finish r r.ending x)
        result_follows (Ok value) r d x rx le is good leads = value_follows value rule.is_start refl r d x rx le is good leads
        result_follows (Err f) r d x rx le is good leads =
            subst (λ (o : Option Ending). On spare begins d (finish r o x)) (sym good)
            (subst (On spare begins d) (sym (does.fails r f x))
            (Comes (Fails f) x (length acts.calls) (ap (λ (c : Config). ended c.left) leads.comes) (is ∙ ap (λ (c : Config). map told c.calls) (sym leads.comes))))

        answer_follows : (d : D) (said : Said (Reduced S) D)
            → Answered left seen Ready d (cost * (length acts.calls + 1)) (map told (calls ++ acts.calls)) (λ x. IsResult Is t rule stack mine at acts.result x) said
            → On spare begins d (on_answer said (λ r x. finish r r.ending x))
        answer_follows d _ (Tells r x rx lx sx good) = result_follows acts.result r d x rx lx sx good (calls_lead t items (machine_at stack triples calls taken hand mending last) rule acts.calls acts.result)
        answer_follows d _ (Lacks x less front) =
            let l = calls_lead t items (machine_at stack triples calls taken hand mending last) rule acts.calls acts.result in
            let c : map told (moves t items (length acts.calls) begins).calls ≡ map told (calls ++ acts.calls) = ap (λ (c : Config). map told c.calls) l.comes ∙ ap (map told) (called_calls t items after_calls rule acts.result) in
            Stops x (length acts.calls) (front.0, c ∙ front.1) (λ k e h.
            let le : length acts.calls ≤ k = l.before k e h in
            less_bound (left d) cost (length acts.calls + 1) (rate t * k + spare) less (omega arith))

      reduction_follows : (otherwise : Config) (terminal : Option ℕ) (p : ℕ) → action_on t (last_of stack) terminal ≡ ReduceBy p → (d : D) → Ready d → seen d ≡ map told calls
          → (let c = machine_at stack triples calls taken hand mending last in
          On spare (reduces_or t items c otherwise (reducible t items c p)) d (on_answer (answers (Reduce (pos p) start_at (map pos stack) mine) d) (λ r x. finish r r.ending x)))
      reduction_follows otherwise terminal p act d r is =
          let c = machine_at stack triples calls taken hand mending last in
          let a = reduces over_tables items c terminal p (record { symbols = xs; path = path; same_count = as_many_values Is xs mine triples alike }) act in
          let n : t.rule p ≡ Some a.0 = rule_is t items c (t.rule p) a.0 a.1 in
          let b = reduces_by over_tables items stack terminal p a.0 act n in
          subst (λ (o : Option Rule). On spare (reduces_or t items c otherwise o) d (on_answer (answers (Reduce (pos p) start_at (map pos stack) mine) d) (λ r x. finish r r.ending x))) (sym a.1)
          (answer_follows a.0 a.2 d _ (by.reduce p a.0 stack xs mine triples start_at calls n b.0 b.1 path alike d r is))

    -- the token in hand, or none, stays
    parse_finishes : (hand : Option Lookahead) → IsHeld Known t hand → (finish : Reduced S → Option Ending → D → Next S D)
        → ((r : Reduced S) (v : Value) (x : D) → finish r (Some (Gives v)) x ≡ Ends (ending_of (result_at None (in_hand hand) v)) x)
        → ((r : Reduced S) (f : Failure) (x : D) → finish r (Some (Fails f)) x ≡ Ends (Fails f) x)
        → ((r : Reduced S) (x : D) → finish r None x ≡ Goes_on (driver.reduced answers (own (Parsing hand)) (Parsing hand) r) x) → Finishes hand None (Parses hand) finish
    parse_finishes hand held finish gives fails goes = record { fits = λ stack. held; few = omega arith; back = λ stack triples calls. refl; gives = gives; fails = fails; goes = goes }

    -- ---- a token in hand
    shift_follows : (l : Lookahead) → IsHeld Known t (Some l) → (to : ℕ) → action_on t (Some top) (Some l.index) ≡ Shift to → (d : D) → Ready d → seen d ≡ map told calls
        → On (2 + extra t) (with_left (machine (Some l)) (Shifts to)) d (driver.by_action answers (own (Parsing (Some l))) l (pos (suc to)) d)
    shift_follows l held to act d r is =
        asked (2 + extra t) (1 + extra t) (omega arith) (with_left (machine (Some l)) (Shifts to)) calls d (λ x. Is (by_number.Terminal l.index) x (t.value l.index l.token.1)) (answers (Token_to_symbol l.index l.token.1) d) _ refl is
        (λ s x rx sx good.
        let mine' = mine ++ (l.token.0, s, l.token.2) ∷ [] in
        let triples' = triples ++ (l.token.0, t.value l.index l.token.1, l.token.2) ∷ [] in
        let end = ready t items (machine_at (stack ++ to ∷ []) triples' calls taken None None last) in
        moved_on (with_left (machine (Some l)) (Shifts to)) end 1 (3 + extra t) (1 + extra t) x _ (one t items (with_left (machine (Some l)) (Shifts to)) end refl refl) (omega arith)
        (subst (λ (ns : List ℤ). On (3 + extra t) end x (Goes_on (record { states = ns; symbols = mine'; items = rest; mode = Parsing None; begin = Default; last = last }) x)) (map-append pos stack (to ∷ []))
        (stays (stack ++ to ∷ []) (xs ++ by_number.Terminal l.index ∷ []) mine' triples' calls taken last (path_push states stack xs top (by_number.Terminal l.index) to path is_top (edge_of top l.index to act))
        (one_more_alike Is xs mine triples alike (by_number.Terminal l.index) l.token.0 l.token.2 s (t.value l.index l.token.1) good) (Parses None) tt x rx sx (3 + extra t) (omega arith))))
        (by.token_to_symbol l.token.1 l.index held.0 held.1 d r)

    does_token : (l : Lookahead) → IsHeld Known t (Some l) → (act : Act) → action_on t (Some top) (Some l.index) ≡ act → (d : D) → Ready d → seen d ≡ map told calls
        → On (2 + extra t) (does t items (machine (Some l)) act) d (driver.by_action answers (own (Parsing (Some l))) l (entry act) d)
    does_token l held NoAction act d r is = token_error l held d r is
    does_token l held (Shift to) act d r is = shift_follows l held to act d r is
    does_token l held (ReduceBy p) act d r is =
        reduction_follows (Some l) None (Parses (Some l)) (driver.after_reduction answers (own (Parsing (Some l))) l) (parse_finishes (Some l) held _ (λ r v x. refl) (λ r f x. refl) (λ r x. refl)) (2 + extra t) (omega arith)
        (no_action t items (machine (Some l))) (Some l.index) p (ap (λ (o : Option ℕ). action_on t o (Some l.index)) is_top ∙ act) d r is

    token_follows : (l : Lookahead) → IsHeld Known t (Some l) → (d : D) → Ready d → seen d ≡ map told calls → On (3 + extra t) (ready t items (machine (Some l))) d (driver.at_token answers (own (Parsing (Some l))) l d)
    token_follows l held d r is =
        at_top (3 + extra t) (ready t items (machine (Some l))) d _
        (subst (λ (o : Option ℕ). On (3 + extra t) (does t items (machine (Some l)) (action_on t o (Some l.index))) d (on_answer (answers (Action (pos top) l.index) d) (λ e x. driver.by_action answers (own (Parsing (Some l))) l e x))) (sym is_top)
        (asked_for (3 + extra t) (2 + extra t) (omega arith) (does t items (machine (Some l)) (t.action top l.index)) calls d (entry (t.action top l.index)) (answers (Action (pos top) l.index) d) _ (does_keeps t items (machine (Some l)) (t.action top l.index)) is
        (λ x rx sx. does_token l held (t.action top l.index) refl x rx sx)
        (by.action stack top l.token.1 l.index on_path is_top held.0 held.1 d r)))

    -- ---- the end of the items
    does_end : rest ≡ [] → (act : Act) → action_on t (Some top) None ≡ act → (d : D) → Ready d → seen d ≡ map told calls
        → On (2 + extra t) (does t items (machine None) act) d (driver.by_eof_action answers (own (Parsing None)) (entry act) d)
    does_end ends NoAction act d r is = end_error ends d r is
    does_end ends (Shift to) act d r is =
        let e = machine_shifts g start states over_tables.tables t over_tables.known (Some top) None to act in
        absurd (cc e.3)
    does_end ends (ReduceBy p) act d r is =
        reduction_follows None None (Parses None) (driver.ends_or answers (own (Parsing None)) (Parsing None)) (parse_finishes None tt _ (λ r v x. refl) (λ r f x. refl) (λ r x. refl)) (2 + extra t) (omega arith)
        (no_action t items (machine None)) None p (ap (λ (o : Option ℕ). action_on t o None) is_top ∙ act) d r is

    end_follows : rest ≡ [] → (d : D) → Ready d → seen d ≡ map told calls → On (3 + extra t) (asks t items (machine None)) d (driver.at_end answers (own (Parsing None)) d)
    end_follows ends d r is =
        at_top (3 + extra t) (asks t items (machine None)) d _
        (subst (λ (o : Option ℕ). On (3 + extra t) (does t items (machine None) (action_on t o None)) d (on_answer (answers (Eof_action (pos top)) d) (λ e x. driver.by_eof_action answers (own (Parsing None)) e x))) (sym is_top)
        (asked_for (3 + extra t) (2 + extra t) (omega arith) (does t items (machine None) (t.at_eof top)) calls d (entry (t.at_eof top)) (answers (Eof_action (pos top)) d) _ (does_keeps t items (machine None) (t.at_eof top)) is
        (λ x rx sx. does_end ends (t.at_eof top) refl x rx sx)
        (by.eof_action stack top on_path is_top d r)))

    -- ---- an item is taken
    index_follows : (a b : Loc) (token : Token) → Known token → (o : Option ℕ) → t.terminal token ≡ o → (d : D) → Ready d → seen d ≡ map told calls
        → (let at = token_in t items a token b in
        On (3 + extra t) (takes t items (machine_at stack triples calls (taken + 1) None None at.2) at o) d (driver.taken answers (own (Parsing None)) (drop (taken + 1) items) at o d))
    index_follows a b token h None is d r same =
        let at = token_in t items a token b in
        error_ends stack triples calls (taken + 1) None None at.2 (Some at) on_path (3 + extra t) (omega arith) d r same
    index_follows a b token h (Some i) is d r same =
        let at = token_in t items a token b in
        stays stack xs mine triples calls (taken + 1) at.2 path alike (Parses (Some (record { token = at; index = i }))) (h, is) d r same (3 + extra t) (omega arith)

    item_follows : (next : RunItem) → slice_get items taken ≡ Some next → (d : D) → Ready d → seen d ≡ map told calls
        → On (2 + extra t) (with_left (machine None) Pulls) d (driver.pulled answers (own (Parsing None)) (drop (taken + 1) items) (located_item t.is_located next) d)
    item_follows (item.Fault name) at d r same =
        Comes (Fails (failure.User (user.Fault name))) d 1 (ap (λ (o : Option RunItem). ended (pulls t items (machine None) o).left) at) (same ∙ ap (λ (o : Option RunItem). map told (pulls t items (machine None) o).calls) (sym at))
    item_follows (item.Token a token b) at d r same =
        let it = token_in t items a token b in
        let h = known.at taken a b token at in
        asked_for (2 + extra t) (1 + extra t) (omega arith) (with_left (machine None) Pulls) calls d (t.terminal token) (answers (Token_to_index token) d) _ refl same
        (λ x rx sx.
        let end = takes t items (machine_at stack triples calls (taken + 1) None None it.2) it (t.terminal token) in
        moved_on (with_left (machine None) Pulls) end 1 (3 + extra t) (1 + extra t) x _ (one t items (with_left (machine None) Pulls) end refl (ap (pulls t items (machine None)) at)) (omega arith)
        (index_follows a b token h (t.terminal token) refl x rx sx))
        (by.token_to_index token h d r)

    pull_follows : (more : List RunItem) → rest ≡ more → (d : D) → Ready d → seen d ≡ map told calls → On (3 + extra t) (ready t items (machine None)) d (driver.pull answers (own (Parsing None)) more d)
    pull_follows [] none d r is =
        let e : ready t items (machine None) ≡ asks t items (machine None) = chosen (nat_lt taken (length items)) false _ _ (le-ltb taken (length items) (past_place items taken none)) in
        subst (λ (c : Config). On (3 + extra t) c d (driver.at_end answers (own (Parsing None)) d)) (sym e) (end_follows none d r is)
    pull_follows (next ∷ more) some d r is =
        let place = at_place items taken next more some in
        let e : ready t items (machine None) ≡ with_left (machine None) Pulls = chosen (nat_lt taken (length items)) true _ _ (within taken (length items) place.2) in
        subst (λ (c : Config). On (3 + extra t) c d (on_answer (answers (To_triple next) d) (λ it x. driver.pulled answers (own (Parsing None)) more it x))) (sym e)
        (subst (λ (more : List RunItem). On (3 + extra t) (with_left (machine None) Pulls) d (on_answer (answers (To_triple next) d) (λ it x. driver.pulled answers (own (Parsing None)) more it x))) place.1
        (asked_for (3 + extra t) (2 + extra t) (omega arith) (with_left (machine None) Pulls) calls d (located_item t.is_located next) (answers (To_triple next) d) _ refl is
        (λ x rx sx. item_follows next place.0 x rx sx)
        (by.to_triple next d r)))

    hand_follows : (hand : Option Lookahead) → IsHeld Known t hand → (d : D) → Ready d → seen d ≡ map told calls → On (3 + extra t) (ready t items (machine hand)) d (driver.parsing answers (own (Parsing hand)) hand d)
    hand_follows None held d r is = pull_follows rest refl d r is
    hand_follows (Some l) held d r is = token_follows l held d r is

    -- ---- while an error is mended
    ready_mending : (stack : List ℕ) (triples : List (Spanned Value)) (calls : List Call) (mending : Mending) (l : Option Lookahead) → EndsWith l rest
        → ready t items (machine_at stack triples calls taken l (Some mending) last) ≡ asks_error t items (machine_at stack triples calls taken l (Some mending) last)
    ready_mending stack triples calls mending None ends = chosen (nat_lt taken (length items)) false _ _ (le-ltb taken (length items) (past_place items taken ends))
    ready_mending stack triples calls mending (Some l) ends = refl

    -- a prefix of the stack with one state more, as the driver has it
    prefix_is : (n to : ℕ) → map pos (take n stack ++ to ∷ []) ≡ take n (map pos stack) ++ pos to ∷ []
    prefix_is n to = map-append pos (take n stack) (to ∷ []) ∙ ap (λ (ns : List ℤ). ns ++ pos to ∷ []) (sym (take-map pos n stack))

    module _ (r : Recovering) (m : IsMendable Known t r) where
      abbrev mending : Config
      mending = mending_at stack triples calls taken r last

      abbrev mends_by_tables : MendsBy answers left seen Ready g states t Is cost m.error
      mends_by_tables = by.mending m.error m.is_error

      on_error : (q : ℕ) → action_on_error t (Some q) ≡ action_on t (Some q) (Some m.error)
      on_error q = ap (λ (o : Option ℕ). action_on_error_of t o (Some q)) m.is_error

      -- all of the stack is looked at
      all_places : length stack ≡ suc (length xs)
      all_places = (let e = path_length states stack xs path in omega arith)

      looks_all : looks t items mending ≡ looks_below t items mending (length stack)
      looks_all = ap (λ (n : ℕ). with_left mending (Looks n)) all_places ∙ ap (looks_below t items mending) (sym all_places)

      seeks_all : (d : D) → Ready d → seen d ≡ map told calls → (spare : ℕ) → 3 ≤ spare → On spare (looks t items mending) d (Goes_on (own (Trying r (length (map pos stack)))) d)
      seeks_all d rd is spare le =
          subst (λ (c : Config). On spare c d (Goes_on (own (Trying r (length (map pos stack)))) d)) (sym looks_all)
          (subst (λ (n : ℕ). On spare (looks_below t items mending (length stack)) d (Goes_on (own (Trying r n)) d)) (sym (length-map stack pos))
          (stays stack xs mine triples calls taken last path alike (Seeks r (length stack)) (m, omega arith) d rd is spare le))

      -- ---- the reductions that the error triggers
      mend_finishes : EndsWith r.lookahead rest → Finishes r.lookahead (Some (mending_of r)) (Mends r) (driver.ends_or answers (own (Reducing r)) (Reducing r))
      mend_finishes ends = record {
        fits = λ stack. (m, ends);
        few = omega arith;
        back = λ stack triples calls. ready_mending stack triples calls (mending_of r) r.lookahead ends;
        gives = λ x v d. refl;
        fails = λ x f d. refl;
        goes = λ x d. refl;
      }

      does_error : EndsWith r.lookahead rest → (act : Act) → action_on_error t (Some top) ≡ act → (d : D) → Ready d → seen d ≡ map told calls
          → On 3 (mends_by t items mending act) d (recovery.reducing_by answers (own (Reducing r)) r (entry act) d)
      does_error ends NoAction act d rd is = seeks_all d rd is 3 (omega arith)
      does_error ends (Shift to) act d rd is = seeks_all d rd is 3 (omega arith)
      does_error ends (ReduceBy p) act d rd is =
          subst (λ (at : Option Loc). On 3 (mends_by t items mending (ReduceBy p)) d (on_answer (answers (Reduce (pos p) at (map pos stack) mine) d) (λ x d'. driver.ends_or answers (own (Reducing r)) (Reducing r) x x.ending d'))) (sym (same_start r.lookahead))
          (reduction_follows r.lookahead (Some (mending_of r)) (Mends r) (driver.ends_or answers (own (Reducing r)) (Reducing r)) (mend_finishes ends) 3 (omega arith)
          (looks t items mending) (Some m.error) p (ap (λ (o : Option ℕ). action_on t o (Some m.error)) is_top ∙ sym (on_error top) ∙ act) d rd is)

      reducing_follows : EndsWith r.lookahead rest → (d : D) → Ready d → seen d ≡ map told calls → On 4 (asks_error t items mending) d (recovery.reducing answers (own (Reducing r)) r d)
      reducing_follows ends d rd is =
          at_top 4 (asks_error t items mending) d _
          (subst (λ (o : Option ℕ). On 4 (mends_by t items mending (action_on_error t o)) d (on_answer (answers (Error_action (pos top)) d) (λ e x. recovery.reducing_by answers (own (Reducing r)) r e x))) (sym is_top)
          (asked_for 4 3 (omega arith) (mends_by t items mending (action_on_error t (Some top))) calls d (entry (action_on_error t (Some top))) (answers (Error_action (pos top)) d) _ (mends_by_keeps t items mending (action_on_error t (Some top))) is
          (λ x rx sx. does_error ends (action_on_error t (Some top)) refl x rx sx)
          (mends_by_tables.error_action stack top on_path is_top d rd)))

      -- ---- a place of the stack
      at_state : (place q : ℕ) → slice_get stack place ≡ Some q → (spare : ℕ) (c : Config) (d : D) (go : ℤ → Next S D) → On spare c d (go (pos q)) → On spare c d (with_state (slice_get (map pos stack) place) d go)
      at_state place q at spare c d go on = subst (λ (o : Option ℤ). On spare c d (with_state o d go)) (sym (slice_get-map pos stack place ∙ ap (option_map pos) at)) on

      error_asked : (place q : ℕ) → slice_get stack place ≡ Some q → (d : D) → Ready d → Answered left seen Ready d cost (seen d) (λ x. x ≡ entry (action_on_error t (Some q))) (answers (Error_action (pos q)) d)
      error_asked place q at d rd = mends_by_tables.error_action (take (suc place) stack) q (take place xs, path_take states stack xs place path) (last_taken stack place q at) d rd

      -- the prefix up to there, with the error
      shifted_path : (place to : ℕ) → ShiftsError t stack place to → IsPath states (take (place + 1) stack ++ to ∷ []) (take place xs ++ by_number.Terminal m.error ∷ [])
      shifted_path place to s =
          let k : suc place ≡ place + 1 = omega arith in
          subst (λ (n : ℕ). IsPath states (take n stack ++ to ∷ []) (take place xs ++ by_number.Terminal m.error ∷ [])) k
          (path_push states (take (suc place) stack) (take place xs) s.state (by_number.Terminal m.error) to (path_take states stack xs place path) (last_taken stack place s.state s.at) (edge_of s.state m.error to (sym (on_error s.state) ∙ s.shifts)))

      passes : (place q : ℕ) → slice_get stack place ≡ Some q → (mode : Mode) (d : D) → Ready d → seen d ≡ map told calls → (spare : ℕ) → 3 ≤ spare → On spare (looks_below t items mending place) d (Goes_on (own (Trying r place)) d)
      passes place q at mode d rd is spare le =
          let within : place < length stack = slice_get_within stack place q at in
          stays stack xs mine triples calls taken last path alike (Seeks r place) (m, omega arith) d rd is spare le

      does_place : (place q : ℕ) → slice_get stack place ≡ Some q → (mode : Mode) (act : Act) → action_on_error t (Some q) ≡ act → (d : D) → Ready d → seen d ≡ map told calls
          → On (7 + extra t) (looks_by t items mending place (shift_of act)) d (Goes_on (recovery.tried (own mode) r place (driver_shift (entry act))) d)
      does_place place q at mode NoAction act d rd is = passes place q at mode d rd is (7 + extra t) (omega arith)
      does_place place q at mode (ReduceBy p) act d rd is = passes place q at mode d rd is (7 + extra t) (omega arith)
      does_place place q at mode (Shift to) act d rd is =
          let s : ShiftsError t stack place to = record { state = q; at = at; shifts = act } in
          let trial = take (place + 1) stack ++ to ∷ [] in
          subst (λ (ns : List ℤ). On (7 + extra t) (checks t items mending place to trial) d (Goes_on (own (Simulating r place ns)) d)) (prefix_is (place + 1) to)
          (stays stack xs mine triples calls taken last path alike (Tests r place to trial) (m, s, (_, shifted_path place to s)) d rd is (7 + extra t) (omega arith))

      trying_follows : (place : ℕ) (mode : Mode) → place < length stack → (d : D) → Ready d → seen d ≡ map told calls → On 3 (with_left mending (Looks (suc place))) d (recovery.trying answers (own mode) r place d)
      trying_follows place mode within d rd is =
          let q = get_or stack place 0 in
          let at : slice_get stack place ≡ Some q = slice_get-get_or stack place 0 within in
          let begin = with_left mending (Looks (suc place)) in
          let act = action_on_error t (Some q) in
          at_state place q at 3 begin d _
          (asked_for 3 2 (omega arith) begin calls d (entry act) (answers (Error_action (pos q)) d) _ refl is
          (λ x rx sx. moved_on begin (looks_by t items mending place (shift_of act)) 1 (7 + extra t) 2 x _ (one t items begin _ refl (ap (λ (o : Option ℕ). looks_by t items mending place (shift_of (action_on_error t o))) at)) (omega arith)
          (does_place place q at mode act refl x rx sx))
          (error_asked place q at d rd))

      -- ---- a place that serves
      mended_follows : (place to : ℕ) → ShiftsError t stack place to → (mode : Mode) (d : D) → Ready d → seen d ≡ map told calls
          → On (4 + extra t) (mends t items mending (Some (mending_of r)) place to) d (recovery.mended answers (own mode) r place (pos to) d)
      mended_follows place to s mode d rd is =
          let recovered : Recovery = record { error = r.error; dropped = r.dropped } in
          let from = error_start (drop place triples) r.dropped (take place triples) in
          let upto = error_end (drop place triples) r.dropped (lookahead_start (in_hand r.lookahead)) from in
          let end = mends t items mending (Some (mending_of r)) place to in
          asked (4 + extra t) (3 + extra t) (omega arith) end calls d (λ x. Is (by_number.Terminal m.error) x (Recovered recovered)) (answers (Error_symbol recovered) d) _ (mends_keeps t items mending (Some (mending_of r)) place to) is
          (λ x after rx sx good.
          let goes = λ (ns : List ℤ) (at : Loc) (till : Loc). On (3 + extra t) end after (Goes_on (record { states = ns; symbols = take place mine ++ (at, x, till) ∷ []; items = rest; mode = Parsing r.lookahead; begin = Default; last = last }) after) in
          let started = symbol_starts Is xs mine triples alike r place in
          subst (λ (ns : List ℤ). goes ns (error_start_of r mine place Default) (error_end_of r mine place (error_start_of r mine place Default))) (prefix_is (place + 1) to)
          (subst (λ (at : Loc). goes (map pos (take (place + 1) stack ++ to ∷ [])) at (error_end_of r mine place at)) (sym started)
          (subst (goes (map pos (take (place + 1) stack ++ to ∷ [])) from) (sym (symbol_ends Is xs mine triples alike r place from))
          (stays (take (place + 1) stack ++ to ∷ []) (take place xs ++ by_number.Terminal m.error ∷ []) (take place mine ++ (from, x, upto) ∷ []) (mended_at triples place (mending_of r) (lookahead_start (in_hand r.lookahead))) calls taken last
          (shifted_path place to s)
          (one_more_alike Is (take place xs) (take place mine) (take place triples) (take_alike Is xs mine triples alike place) (by_number.Terminal m.error) from upto x (Recovered recovered) good)
          (Parses r.lookahead) m.held after rx sx (3 + extra t) (omega arith)))))
          (mends_by_tables.error_symbol recovered d rd)

      serves_follows : (place to : ℕ) → ShiftsError t stack place to → (mode : Mode) (spare : ℕ) → 5 + extra t ≤ spare → (d : D) → Ready d → seen d ≡ map told calls
          → On spare (mends t items mending (Some (mending_of r)) place to) d (recovery.serves answers (own mode) r place d)
      serves_follows place to s mode spare le d rd is =
          let end = mends t items mending (Some (mending_of r)) place to in
          let within : place < length stack = slice_get_within stack place s.state s.at in
          let all = all_places in
          let own_count = as_many_own Is xs mine triples alike in
          let fits : nat_lt (length mine) place ≡ false = le-ltb (length mine) place (omega arith) in
          subst (λ (b : Bool). On spare end d (if b then Halted Stuck d else recovery.serves_at answers (own mode) r place d)) (sym fits)
          (at_state place s.state s.at spare end d _
          (asked_for spare (4 + extra t) (omega arith) end calls d (pos (suc to)) (answers (Error_action (pos s.state)) d) _ (mends_keeps t items mending (Some (mending_of r)) place to) is
          (λ x rx sx. mended_follows place to s mode x rx sx)
          (subst (λ (a : Act). Answered left seen Ready d cost (seen d) (λ x. x ≡ entry a) (answers (Error_action (pos s.state)) d)) s.shifts (error_asked place s.state s.at d rd))))

      -- ---- a trial of the token in hand
      abbrev ahead : Option ℕ
      ahead = lookahead_terminal (in_hand r.lookahead)

      -- a place, what is shifted to from there, and the stack of its trial
      module _ (place to : ℕ) (s : ShiftsError t stack place to) (tried : List ℕ) (on_trial : IsOnPath states tried) (mode : Mode) where
        abbrev says : Verdict → Config
        says v = checked t items mending place to v

        -- below its top
        reduced_goes : (rule : Rule) → IsReducible g states tried rule → rule.is_start ≡ false → (d : D) → Ready d → seen d ≡ map told calls
            → On (5 + extra t) (says (reduced_stack t tried rule)) d (recovery.simulated answers (own mode) r place (map pos tried) (simulated.Reduce rule.length rule.nonterminal) d)
        reduced_goes rule reducible start d rd is =
            let l = leads_on over_tables tried on_trial.0 rule reducible on_trial.1 start in
            let keep = below rule.length tried in
            let fits = l.fits in
            let under = path_under states tried on_trial.0 rule.length fits on_trial.1 in
            let q = end_of 0 under.rest in
            let at : last_of keep ≡ Some q = path_top states keep (below rule.length on_trial.0) under in
            let goto : goto_from t (Some q) rule.nonterminal ≡ Some l.to = ap (λ (o : Option ℕ). goto_from t o rule.nonterminal) (sym at) ∙ l.goto in
            let next = keep ++ l.to ∷ [] in
            let goes_on : says (reduced_stack t tried rule) ≡ with_left mending (Checks place to next) = ap (λ (o : Option ℕ). says (pushed t keep o)) l.goto in
            let count = path_length states tried on_trial.0 on_trial.1 in
            let same = length-map tried pos in
            let enough : nat_lt (length (map pos tried)) rule.length ≡ false = le-ltb (length (map pos tried)) rule.length (omega arith) in
            let go = λ (keep : List ℤ). with_state (last_of keep) d (λ s. on_answer (answers (Goto s rule.nonterminal) d) (λ g d'. Goes_on (own (Simulating r place (keep ++ g ∷ []))) d')) in
            let begin = with_left mending (Checks place to next) in
            subst (λ (c : Config). On (5 + extra t) c d (recovery.simulated answers (own mode) r place (map pos tried) (simulated.Reduce rule.length rule.nonterminal) d)) (sym goes_on)
            (subst (λ (b : Bool). On (5 + extra t) begin d (if b then Halted Stuck d else go (below rule.length (map pos tried)))) (sym enough)
            (subst (λ (ns : List ℤ). On (5 + extra t) begin d (go ns)) (sym (below_map pos rule.length tried))
            (subst (λ (o : Option ℤ). On (5 + extra t) begin d (with_state o d (λ s. on_answer (answers (Goto s rule.nonterminal) d) (λ g d'. Goes_on (own (Simulating r place (map pos keep ++ g ∷ []))) d')))) (sym (top_is keep q at))
            (asked_for (5 + extra t) (4 + extra t) (omega arith) begin calls d (pos l.to) (answers (Goto (pos q) rule.nonterminal) d) _ refl is
            (λ x rx sx. moved_on begin (checks t items mending place to next) 1 (7 + extra t) (4 + extra t) x _ (one t items begin _ refl refl) (omega arith)
            (subst (λ (ns : List ℤ). On (7 + extra t) (checks t items mending place to next) x (Goes_on (own (Simulating r place ns)) x)) (map-append pos keep (l.to ∷ []))
            (stays stack xs mine triples calls taken last path alike (Tests r place to next) (m, s, (_, l.path)) x rx sx (7 + extra t) (omega arith))))
            (mends_by_tables.goto keep q l.to rule.nonterminal (_, under) at goto d rd)))))

        -- a reduction: the start's serves
        by_start : (rule : Rule) → IsReducible g states tried rule → (b : Bool) → rule.is_start ≡ b → (d : D) → Ready d → seen d ≡ map told calls
            → On (5 + extra t) (says (if b then Yes else reduced_stack t tried rule)) d (recovery.simulated answers (own mode) r place (map pos tried) (if b then simulated.Accept else simulated.Reduce rule.length rule.nonterminal) d)
        by_start rule reducible true start d rd is = serves_follows place to s mode (5 + extra t) (omega arith) d rd is
        by_start rule reducible false start d rd is = reduced_goes rule reducible start d rd is

        -- there is a rule, else the trial would say no
        no_rule : (p : ℕ) → action_on t (last_of tried) ahead ≡ ReduceBy p → t.rule p ≡ None → ⊥
        no_rule p act none =
            let no : verdict t tried ahead ≡ No = ap (verdict_by t tried) act ∙ ap (verdict_by_rule t tried) none in
            ⊎_elim (λ (yes : verdict t tried ahead ≡ Yes). absurd (cc)) (λ (more : (next : List ℕ) × (verdict t tried ahead ≡ GoesOn next) × IsOnPath states next). let e = more.1 in absurd (cc)) (trial_leads_on over_tables tried ahead p on_trial act)

        by_rule : (p : ℕ) → action_on t (last_of tried) ahead ≡ ReduceBy p → (o : Option Rule) → t.rule p ≡ o → (d : D) → Ready d → seen d ≡ map told calls
            → On (6 + extra t) (says (verdict_by_rule t tried o)) d (on_answer (answers (Simulate_reduce (pos p)) d) (λ x d'. recovery.simulated answers (own mode) r place (map pos tried) x d'))
        by_rule p act None is_none d rd is = absurd (no_rule p act is_none)
        by_rule p act (Some rule) is_rule d rd is =
            let reducible = reduces_by over_tables items tried ahead p rule act is_rule in
            let end = says (verdict_by_rule t tried (Some rule)) in
            asked (6 + extra t) (5 + extra t) (omega arith) end calls d (λ x. simulated_by (Some rule) ≡ Some x) (answers (Simulate_reduce (pos p)) d) _ (says_keeps t items mending place (Some to) (verdict_by_rule t tried (Some rule))) is
            (λ x after rx sx good. subst (λ (x : Simulated). On (5 + extra t) end after (recovery.simulated answers (own mode) r place (map pos tried) x after)) (same_Some _ x good)
            (by_start rule reducible.0 rule.is_start refl after rx sx))
            (mends_by_tables.simulate p rule tried is_rule reducible.0 reducible.1 on_trial d rd)

        does_trial : (act : Act) → action_on t (last_of tried) ahead ≡ act → (d : D) → Ready d → seen d ≡ map told calls
            → On (6 + extra t) (says (verdict_by t tried act)) d (recovery.simulating_by answers (own mode) r place (map pos tried) (production_of (entry act)) (driver_shift (entry act)) d)
        does_trial NoAction act d rd is = passes place s.state s.at mode d rd is (6 + extra t) (omega arith)
        does_trial (Shift j) act d rd is = serves_follows place to s mode (6 + extra t) (omega arith) d rd is
        does_trial (ReduceBy p) act d rd is = by_rule p act (t.rule p) refl d rd is

        -- what the token in hand does, or the end of the items
        ahead_asked : (q : ℕ) → last_of tried ≡ Some q → (l : Option Lookahead) → IsHeld Known t l → (d : D) → Ready d
            → Answered left seen Ready d cost (seen d) (λ x. x ≡ entry (action_on t (Some q) (lookahead_terminal (in_hand l)))) (recovery.asks_action answers l (pos q) d)
        ahead_asked q at None held d rd = by.eof_action tried q on_trial at d rd
        ahead_asked q at (Some l) held d rd = by.action tried q l.token.1 l.index on_trial at held.0 held.1 d rd

        simulating_follows : (d : D) → Ready d → seen d ≡ map told calls → On (7 + extra t) (checks t items mending place to tried) d (recovery.simulating answers (own mode) r place (map pos tried) d)
        simulating_follows d rd is =
            let q = end_of 0 on_trial.1.rest in
            let at : last_of tried ≡ Some q = path_top states tried on_trial.0 on_trial.1 in
            let act = action_on t (Some q) ahead in
            let by_act : action_on t (last_of tried) ahead ≡ act = ap (λ (o : Option ℕ). action_on t o ahead) at in
            let go = λ (e : ℤ) (x : D). recovery.simulating_by answers (own mode) r place (map pos tried) (production_of e) (driver_shift e) x in
            subst (λ (o : Option ℤ). On (7 + extra t) (checks t items mending place to tried) d (with_state o d (λ s. on_answer (recovery.asks_action answers r.lookahead s d) go))) (sym (top_is tried q at))
            (subst (λ (a : Act). On (7 + extra t) (says (verdict_by t tried a)) d (on_answer (recovery.asks_action answers r.lookahead (pos q) d) go)) (sym by_act)
            (asked_for (7 + extra t) (6 + extra t) (omega arith) (says (verdict_by t tried act)) calls d (entry act) (recovery.asks_action answers r.lookahead (pos q) d) go (says_keeps t items mending place (Some to) (verdict_by t tried act)) is
            (λ x rx sx. does_trial act by_act x rx sx)
            (ahead_asked q at r.lookahead m.held d rd)))

  -- ---- a token is dropped
  -- the top place first
  top_first : (stack : List ℕ) (xs : List SymbolNumber) (mine : List (Spanned S)) (triples : List (Spanned Value)) (calls : List Call) (taken : ℕ) (last : Loc) (path : IsPath states stack xs) (alike : AreAlike Is xs mine triples)
      (r : Recovering) → IsMendable Known t r → (mode : Mode) (d : D) → Ready d → seen d ≡ map told calls
      → On 3 (looks t items (mending_at stack triples calls taken r last)) d (recovery.trying_last answers (driver_at stack mine (drop taken items) mode last) r (length (map pos stack)) d)
  top_first stack xs mine triples calls taken last path alike r m mode d rd is =
      let count = path_length states stack xs path in
      let all : length stack ≡ suc (length xs) = omega arith in
      let c = mending_at stack triples calls taken r last in
      let w = driver_at stack mine (drop taken items) mode last in
      subst (λ (n : ℕ). On 3 (with_left c (Looks n)) d (recovery.trying_last answers w r (length (map pos stack)) d)) (sym all)
      (subst (λ (n : ℕ). On 3 (with_left c (Looks (suc (length xs)))) d (recovery.trying_last answers w r n d)) (sym (length-map stack pos ∙ all))
      (trying_follows stack xs mine triples calls taken last path alike r m (length xs) mode (omega arith) d rd is))

  module _ (stack : List ℕ) (xs : List SymbolNumber) (mine : List (Spanned S)) (triples : List (Spanned Value)) (calls : List Call) (taken : ℕ) (last : Loc) (path : IsPath states stack xs) (alike : AreAlike Is xs mine triples)
      (error : ℕ) (is_error : t.error ≡ Some error) (failed : Failure) (dropped : List (Spanned Token)) (mode : Mode) where
    abbrev with_hand : Option Lookahead → Recovering
    with_hand hand = record { error = failed; dropped = dropped; lookahead = hand }

    abbrev w : Driver S
    w = driver_at stack mine (drop taken items) mode last

    -- before the token in hand is dropped
    abbrev drops_next : Lookahead → Config
    drops_next l = with_left (mending_at stack triples calls taken (with_hand (Some l)) last) Drops

    abbrev less : Lookahead → Recovering
    less l = recovery.dropped_with answers (with_hand (Some l)) l

    abbrev emptied : Lookahead → Config
    emptied l = mending_at stack triples calls taken (less l) last

    index_dropped : (l : Lookahead) (a b : Loc) (token : Token) → Known token → (o : Option ℕ) → t.terminal token ≡ o → (d : D) → Ready d → seen d ≡ map told calls
        → (let at = token_in t items a token b in
        On 3 (taken_after t items (mending_at stack triples calls (taken + 1) (less l) at.2) at o) d
        (driver.taken answers (driver_at stack mine (drop taken items) (Trying (less l) (length (map pos stack))) last) (drop (taken + 1) items) at o d))
    index_dropped l a b token h None is d rd same =
        let at = token_in t items a token b in
        error_ends stack triples calls (taken + 1) None (Some (mending_of (less l))) at.2 (Some at) (xs, path) 3 (omega arith) d rd same
    index_dropped l a b token h (Some i) is d rd same =
        let at = token_in t items a token b in
        let r : Recovering = record { error = failed; dropped = dropped ++ l.token ∷ []; lookahead = Some (record { token = at; index = i }) } in
        seeks_all stack xs mine triples calls (taken + 1) at.2 path alike r (record { error = error; is_error = is_error; held = (h, is) }) d rd same 3 (omega arith)

    item_dropped : (l : Lookahead) (next : RunItem) → slice_get items taken ≡ Some next → (d : D) → Ready d → seen d ≡ map told calls
        → On 2 (drops_next l) d (driver.pulled answers (driver_at stack mine (drop taken items) (Trying (less l) (length (map pos stack))) last) (drop (taken + 1) items) (located_item t.is_located next) d)
    item_dropped l (item.Fault name) at d rd same =
        Comes (Fails (failure.User (user.Fault name))) d 1 (ap (λ (o : Option RunItem). ended (drops t items (emptied l) o).left) at) (same ∙ ap (λ (o : Option RunItem). map told (drops t items (emptied l) o).calls) (sym at))
    item_dropped l (item.Token a token b) at d rd same =
        let it = token_in t items a token b in
        let h = known.at taken a b token at in
        asked_for 2 1 (omega arith) (drops_next l) calls d (t.terminal token) (answers (Token_to_index token) d) _ refl same
        (λ x rx sx.
        let end = taken_after t items (mending_at stack triples calls (taken + 1) (less l) it.2) it (t.terminal token) in
        moved_on (drops_next l) end 1 3 1 x _ (one t items (drops_next l) end refl (ap (drops t items (emptied l)) at)) (omega arith)
        (index_dropped l a b token h (t.terminal token) refl x rx sx))
        (by.token_to_index token h d rd)

    dropping_follows : (l : Lookahead) (more : List RunItem) → drop taken items ≡ more → (d : D) → Ready d → seen d ≡ map told calls → On 3 (drops_next l) d (recovery.dropping answers w (with_hand (Some l)) l more d)
    dropping_follows l [] none d rd is =
        moved_on (drops_next l) (looks t items (emptied l)) 1 3 3 d _ (one t items (drops_next l) _ refl (ap (drops t items (emptied l)) (slice_get_past items taken (past_place items taken none)))) (omega arith)
        (top_first stack xs mine triples calls taken last path alike (less l) (record { error = error; is_error = is_error; held = tt }) mode d rd is)
    dropping_follows l (next ∷ more) some d rd is =
        let place = at_place items taken next more some in
        subst (λ (more : List RunItem). On 3 (drops_next l) d (recovery.dropping answers w (with_hand (Some l)) l (next ∷ more) d)) place.1
        (asked_for 3 2 (omega arith) (drops_next l) calls d (located_item t.is_located next) (answers (To_triple next) d) _ refl is
        (λ x rx sx. item_dropped l next place.0 x rx sx)
        (by.to_triple next d rd))

    exhausted_follows : (hand : Option Lookahead) (d : D) → Ready d → seen d ≡ map told calls → On 3 (looks_below t items (mending_at stack triples calls taken (with_hand hand) last) 0) d (recovery.exhausted answers w (with_hand hand) hand d)
    exhausted_follows None d rd is = Comes (Fails failed) d 0 refl is
    exhausted_follows (Some l) d rd is = dropping_follows l (drop taken items) refl d rd is

  -- ---- turns
  module _ (stack : List ℕ) (xs : List SymbolNumber) (mine : List (Spanned S)) (triples : List (Spanned Value)) (calls : List Call) (taken : ℕ) (last : Loc) (path : IsPath states stack xs) (alike : AreAlike Is xs mine triples) where
    places_follow : (r : Recovering) (places : ℕ) → IsMendable Known t r → places ≤ length stack → (mode : Mode) (d : D) → Ready d → seen d ≡ map told calls
        → On 3 (looks_below t items (mending_at stack triples calls taken r last) places) d (recovery.trying_from answers (driver_at stack mine (drop taken items) mode last) r places d)
    places_follow r zero m le mode d rd is = exhausted_follows stack xs mine triples calls taken last path alike m.error m.is_error r.error r.dropped mode r.lookahead d rd is
    places_follow r (suc place) m le mode d rd is = trying_follows stack xs mine triples calls taken last path alike r m place mode le d rd is

    phase_follows : (phase : Phase) → Fits Known states t stack (drop taken items) phase → (d : D) → Ready d → seen d ≡ map told calls
        → On (aside t (mode_in phase)) (machine_in t items stack triples calls taken last phase) d (turn_in answers (driver_at stack mine (drop taken items) (mode_in phase) last) (mode_in phase) d)
    phase_follows (Parses hand) fits d rd is = hand_follows stack xs mine triples calls taken last path alike hand fits d rd is
    phase_follows (Mends r) fits d rd is = reducing_follows stack xs mine triples calls taken last path alike r fits.0 fits.1 d rd is
    phase_follows (Seeks r places) fits d rd is = places_follow r places fits.0 fits.1 (Trying r places) d rd is
    phase_follows (Tests r place to tested) fits d rd is =
        simulating_follows stack xs mine triples calls taken last path alike r fits.0 place to fits.1 tested fits.2 (Simulating r place (map pos tested)) d rd is

  abbrev pub AtOne : Driver S → D → Config → Type 0
  AtOne w d c = Stands seen Ready told states t Is Known items w d c

  turn_follows : (w : Driver S) (d : D) (c : Config) → AtOne w d c → On (aside t w.mode) c d (turn answers w d)
  turn_follows w d c s =
      let w' = driver_at s.stack s.mine (drop s.taken items) (mode_in s.phase) s.last in
      subst (λ (w : Driver S). On (aside t w.mode) c d (turn answers w d)) (sym s.driver)
      (subst (λ (c : Config). On (aside t w'.mode) c d (turn answers w' d)) (sym s.machine)
      (phase_follows s.stack s.symbols s.mine s.triples s.calls s.taken s.last s.path s.alike s.phase s.fits d s.is_ready s.called))

  more_turns : (n : ℕ) → ((w : Driver S) (d : D) (c : Config) → AtOne w d c → On (aside t w.mode) c d (turns answers n w d)) → (spare : ℕ) (c : Config) (d : D) (next : Next S D) → On spare c d next → On spare c d (goes_on answers next (turns answers n))
  more_turns n more spare c d _ (Goes w x b m s l le) = chained c b m (aside t w.mode) spare d x (turns answers n w x) l le (more w x b s)
  more_turns n more spare c d _ (Comes e x m so calls) = Comes e x m so calls
  more_turns n more spare c d _ (Stops x m front bound) = Stops x m front bound

  pub turns_follow : (n : ℕ) (w : Driver S) (d : D) (c : Config) → AtOne w d c → On (aside t w.mode) c d (turns answers n w d)
  turns_follow zero w d c s = Goes w d c 0 s (none t items c) (aside_bound (left d) cost (rate t) (aside t w.mode) (aside t w.mode) (omega arith))
  turns_follow (suc n) w d c s = more_turns n (turns_follow n) (aside t w.mode) c d (turn answers w d) (turn_follows w d c s)
