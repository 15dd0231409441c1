-- Each turn of a driver over a definition by tables makes moves of the machine.
use Rattle.std.proofs.Common.{◌≡◌, ℕ, zero, suc, ◌+◌, ◌-◌, ◌^◌, ◌<◌, ◌≤◌, ℤ, pos, negsuc, Bool, true, false, List, [], ◌∷◌, ◌++◌, length, take, drop, Option, Some, None, Result, Ok, Err, refl, sym, ap, ◌∙◌, subst, append_assoc, arith}
use Rattle.std.specs.Prelude.{map, slice_get, nat_lt, if◌then◌else◌, is_some, ◌==◌}
use Rattle.std.specs.Option.{option_map}
use Rattle.std.proofs.lemmas.Bool.{le-ltb}
use Rattle.std.proofs.lemmas.Bool.Decides.{nat_tests}
use Rattle.std.proofs.lemmas.List.{append-nil, length-map, map-append, take-map}
use Rattle.std.proofs.lemmas.Option.{slice_get-map}
use Rattle.lp_repr.specs.declared.values.Loc.{Loc}
use Rattle.lp_repr.specs.declared.values.Loc.TheVariants.{Default}
use Rattle.lp_repr.specs.declared.values.RunItem.{RunItem}
use Rattle.lp_repr.specs.declared.values.RunItem.TheVariants as item
use Rattle.lp_repr.specs.declared.values.UserError.TheVariants as user
use Rattle.lp_repr.specs.declared.values.ParseError.TheVariants as failure
use Rattle.lp_driver.specs.declared.answers.Expecting.{Expecting}
use Rattle.lp_driver.specs.declared.answers.Expecting.TheVariants.{Trial, Actions}
use Rattle.lp_driver.specs.Values.{Text, Token, Spanned, Value, Failure, Recovered, Ending, Gives, Fails}
use Rattle.lp_driver.specs.Questions.{Said, Says, Halts, Halt, Spent, Stuck, Reduced, Expected, Uses_recovery}
use Rattle.lp_driver.specs.DriverState as driver
use Rattle.lp_driver.specs.DriverState.{Recovering, Driver, Mode, Parsing, Reducing, Trying, Simulating, Next, Goes_on, Ends, Halted, on_answer, with_state, with_mode, last_of}
use Rattle.lp_driver.specs.ParsingTurns as parsing
use Rattle.lp_driver.specs.RecoveryTurns as mending
use Rattle.lp_driver.specs.Turns as turns
use Rattle.lp_machine.specs.declared.lookup.Act.{Act}
use Rattle.lp_machine.specs.declared.lookup.Act.TheVariants.{Shift, ReduceBy, NoAction}
use Rattle.lp_machine.specs.declared.lookup.Rule.{Rule}
use Rattle.lp_machine.specs.declared.calls.Call.{Call}
use Rattle.lp_machine.specs.declared.config.Mending.{Mending}
use Rattle.lp_machine.specs.declared.config.Left.TheVariants.{Pulls, Calls, Reduces}
use Rattle.lp_machine.specs.declared.config.Config.{Config}
use Rattle.lp_machine.specs.declared.by_tables.TableDefinition.{TableDefinition}
use Rattle.lp_machine.specs.ReductionSpan.{below, popped, empty_place, span}
use Rattle.lp_machine.specs.Tables.{Tables}
use Rattle.lp_machine.specs.ExpectedList.{goto_from, names_with_action}
use Rattle.lp_machine.specs.ExpectedLaw.{names_tried}
use Rattle.lp_machine.specs.StackMachine.{with_left, over, lookahead_start, result_at, reduced_triples}
use Rattle.lp_machine.specs.Moves.{calls_next, called, reduces_or, reducible, reducible_by, completes, errs, errs_by, ready}
use Rattle.lp_machine.specs.Move.{reduces_to, moves}
use Rattle.lp_machine.specs.RunEnds.{ended}
use Rattle.lp_machine.specs.TableAnswers.{number_of, entry_of, state_of, tables_in, with_steps, with_calls, with_stuck, sticks, or_sticks, step_from, says_or_sticks, or_spent, expected_by, goes_to, reduced_to, reduced_by, reduces_with, reduce_by, reduce, table_answers}
use Rattle.lp_machine.specs.DriverStanding.{in_hand, mending_of, stacks_of, stands}
use Rattle.lp_machine.proofs.MoreMoves.{Leads, then_leads}
use Rattle.lp_machine.proofs.KeptCalls.{errs_by_keeps, errs_keeps, no_action_keeps, ready_keeps}
use Rattle.lp_machine.proofs.ExpectedLists.{chosen, moves_try_names}

-- at an error without a token in hand no item is left
abbrev pub EndsWith : Option driver.Lookahead → List RunItem → Type 0
EndsWith None rest = rest ≡ []
EndsWith (Some l) rest = Unit {0}

abbrev pub EndsIn : Mode → List RunItem → Type 0
EndsIn (Parsing l) rest = Unit {0}
EndsIn (Reducing r) rest = EndsWith r.lookahead rest
EndsIn (Trying r places) rest = EndsWith r.lookahead rest
EndsIn (Simulating r place stack) rest = EndsWith r.lookahead rest

-- the items that a driver has left come after those that the machine took
pub record Fits (items : List RunItem) (w : Driver Value) (taken : ℕ) : Type 0 where
  pub rest : w.items ≡ drop taken items
  pub ends : EndsIn w.mode w.items
  pub begin : w.begin ≡ Default

-- where a turn leads, there moves lead from a configuration
pub data Follows (t : Tables) (items : List RunItem) (c : Config) : Next Value TableDefinition → Type 0 where
  Goes : (w : Driver Value) (d : TableDefinition) (taken : ℕ) → tables_in d ≡ t → Fits items w taken → Leads t items c (stands t items w d.calls taken) → Follows t items c (Goes_on w d)
  Comes : (e : Ending) (d : TableDefinition) (end : Config) → Leads t items c end → ended end.left ≡ Some e → end.calls ≡ d.calls → Follows t items c (Ends e d)
  Stops : (why : Halt) (d : TableDefinition) (end : Config) → Leads t items c end → end.calls ≡ d.calls → Follows t items c (Halted why d)

pub before : (t : Tables) (items : List RunItem) (a b : Config) (next : Next Value TableDefinition) → Leads t items a b → Follows t items b next → Follows t items a next
before t items a b _ f (Goes w d taken same fits leads) = Goes w d taken same fits (then_leads t items a b _ f leads)
before t items a b _ f (Comes e d end leads so calls) = Comes e d end (then_leads t items a b _ f leads) so calls
before t items a b _ f (Stops why d end leads calls) = Stops why d end (then_leads t items a b _ f leads) calls

-- the top state by its number, and lists of numbers
pub top_number : (states : List ℤ) (s : ℤ) → last_of states ≡ Some s → last_of (map number_of states) ≡ Some (number_of s)
top_number states s h =
    ap (λ n. slice_get (map number_of states) (n - 1)) (length-map states number_of) ∙ slice_get-map number_of states (length states - 1) ∙ ap (option_map number_of) h

pub below_numbers : (n : ℕ) (states : List ℤ) → below n (map number_of states) ≡ map number_of (below n states)
below_numbers n states = ap (λ k. take (k - n) (map number_of states)) (length-map states number_of) ∙ take-map number_of (length states - n) states

pub one_number : (states : List ℤ) (n : ℕ) → map number_of (states ++ pos n ∷ []) ≡ map number_of states ++ n ∷ []
one_number states n = map-append number_of states (pos n ∷ [])

module _ (t : Tables) (items : List RunItem) (c : Config) where
  -- the driver halts where the machine made the same calls
  pub halts : (why : Halt) (d : TableDefinition) → c.calls ≡ d.calls → Follows t items c (Halted why d)
  halts why d same = Stops why d c (0, refl) same

  -- a question that is a step
  pub asked : {A : Type 0} (n : ℕ) (d : TableDefinition) (f : TableDefinition → Said A TableDefinition) (go : A → TableDefinition → Next Value TableDefinition)
      → c.calls ≡ d.calls → ((k : ℕ) → Follows t items c (on_answer (f (with_steps d k)) go)) → Follows t items c (on_answer (step_from n d f) go)
  asked zero d f go same h = halts Spent d same
  asked (suc k) d f go same h = h k

  pub if_says : {A : Type 0} (b : Bool) (x : A) (d : TableDefinition) (go : A → TableDefinition → Next Value TableDefinition)
      → c.calls ≡ d.calls → Follows t items c (go x d) → Follows t items c (on_answer (says_or_sticks (if b then Some x else None) d) go)
  if_says true x d go same h = h
  if_says false x d go same h = halts Stuck (with_stuck d) same

  -- what a state does, as the driver takes it
  pub enters : (act : Act) (d : TableDefinition) (go : ℤ → TableDefinition → Next Value TableDefinition)
      → c.calls ≡ d.calls → (act ≡ NoAction → Follows t items c (go (pos 0) d)) → ((to : ℕ) → act ≡ Shift to → Follows t items c (go (pos (suc to)) d)) → ((p : ℕ) → act ≡ ReduceBy p → Follows t items c (go (negsuc p) d))
      → Follows t items c (on_answer (says_or_sticks (entry_of act) d) go)
  enters NoAction d go same none shift reduce = none refl
  enters (Shift to) d go same none shift reduce = if_says (nat_lt to (2 ^ 31 - 1)) (pos (suc to)) d go same (shift to refl)
  enters (ReduceBy p) d go same none shift reduce = if_says (nat_lt p (2 ^ 31)) (negsuc p) d go same (reduce p refl)

  pub at_state : (o : Option ℤ) (d : TableDefinition) (go : ℤ → Next Value TableDefinition) → c.calls ≡ d.calls → ((s : ℤ) → o ≡ Some s → Follows t items c (go s)) → Follows t items c (with_state o d go)
  at_state None d go same h = halts Stuck d same
  at_state (Some s) d go same h = h s refl

module _ (items : List RunItem) (c0 : Config) (states : List ℤ) where
  abbrev c : Config
  c = record c0 { states = map number_of states; left = Pulls }

  -- the expected list of an error
  tried_by : (d : TableDefinition) (token : Option (Spanned Token)) (mends : Bool) (go : List Text → TableDefinition → Next Value TableDefinition) (o : Option (List Text))
      → c0.calls ≡ d.calls → names_tried (tables_in d) d.left (map number_of states) 0 (tables_in d).names ≡ o → ((found : List Text) → Follows (tables_in d) items (completes (tables_in d) items c (record { token = token; mends = mends; found = found })) (go found d))
      → Follows (tables_in d) items (errs_by (tables_in d) items Trial c token mends) (on_answer (or_spent o d) go)
  tried_by d token mends go None same e h = halts (tables_in d) items _ Spent (with_steps d 0) (errs_by_keeps (tables_in d) items Trial c token mends ∙ same)
  tried_by d token mends go (Some found) same e h =
      before (tables_in d) items _ _ (go found d) (moves_try_names (tables_in d) items d.left c (record { token = token; mends = mends; found = [] }) found e) (h found)

  listed_by : (e : Expecting) (d : TableDefinition) (token : Option (Spanned Token)) (mends : Bool) (go : List Text → TableDefinition → Next Value TableDefinition)
      → c0.calls ≡ d.calls → ((found : List Text) → Follows (tables_in d) items (completes (tables_in d) items c (record { token = token; mends = mends; found = found })) (go found d))
      → Follows (tables_in d) items (errs_by (tables_in d) items e c token mends) (on_answer (expected_by e (map number_of states) d) go)
  listed_by Actions d token mends go same h = h (names_with_action (tables_in d) (last_of (map number_of states)) 0 (tables_in d).names)
  listed_by Trial d token mends go same h = tried_by d token mends go (names_tried (tables_in d) d.left (map number_of states) 0 (tables_in d).names) same refl h

  pub listed : (d : TableDefinition) (token : Option (Spanned Token)) (mends : Bool) (go : List Text → TableDefinition → Next Value TableDefinition)
      → c0.calls ≡ d.calls → ((found : List Text) (k : ℕ) → Follows (tables_in d) items (completes (tables_in d) items c (record { token = token; mends = mends; found = found })) (go found (with_steps d k)))
      → Follows (tables_in d) items (errs (tables_in d) items c token mends) (on_answer (table_answers (Expected states) d) go)
  listed d token mends go same h =
      asked (tables_in d) items _ d.left d _ go (errs_keeps (tables_in d) items c token mends ∙ same)
      (λ k. listed_by (tables_in d).expecting (with_steps d k) token mends go same (λ found. h found k))

-- the calls of a reduction are made one by one
some_length : {A : Type 0} (x : A) (xs : List A) → (length (x ∷ xs) == 0) ≡ false
some_length x xs = grind (arith, nat_tests)

calls_lead : (t : Tables) (items : List RunItem) (c0 : Config) (rule : Rule) (calls : List Call) (r : Result Value Failure)
    → Leads t items (calls_next t items (with_left c0 Pulls) rule calls r) (called t items (record c0 { calls = c0.calls ++ calls; left = Pulls }) rule r)
calls_lead t items c0 rule [] r = (0, ap (λ l. called t items (record c0 { calls = l; left = Pulls }) rule r) (sym (append-nil c0.calls)))
calls_lead t items c0 rule (call ∷ calls) r =
    let more = calls_lead t items (record c0 { calls = c0.calls ++ call ∷ [] }) rule calls r in
    let begin : calls_next t items (with_left c0 Pulls) rule (call ∷ calls) r ≡ with_left c0 (Calls rule (call ∷ calls) r) = chosen (length (call ∷ calls) == 0) false _ _ (some_length call calls) in
    (suc more.0, ap (moves t items (suc more.0)) begin ∙ more.1 ∙ ap (λ l. called t items (record c0 { calls = l; left = Pulls }) rule r) (append_assoc c0.calls (call ∷ []) calls))

-- a reduction by a production, whose symbols are on the stack
module _ (items : List RunItem) (w : Driver Value) (taken : ℕ) (l : Option driver.Lookahead) (m : Option Mending) (d : TableDefinition) (go : Reduced Value → TableDefinition → Next Value TableDefinition) where
  abbrev t : Tables
  t = tables_in d

  abbrev after : List Call → Config
  after calls = stacks_of w (d.calls ++ calls) taken l m

  abbrev ending_with : Ending → Reduced Value
  ending_with e = record { states = w.states; symbols = w.symbols; ending = Some e }

  -- where the ways that it may end lead
  pub record Ways : Type 0 where
    pub valued : (calls : List Call) (value : Value) → Follows t items (over (after calls) (result_at m (in_hand l) value)) (go (ending_with (Gives value)) (with_calls d calls))
    pub failed : (calls : List Call) (f : Failure) → Follows t items (over (after calls) (Err f)) (go (ending_with (Fails f)) (with_calls d calls))
    pub goes : (calls : List Call) (states : List ℤ) (symbols : List (Spanned Value))
        → Follows t items (ready t items (stacks_of (record w { states = states; symbols = symbols }) (d.calls ++ calls) taken l m)) (go (record { states = states; symbols = symbols; ending = None }) (with_calls d calls))

  module _ (ways : Ways) where
    abbrev at_lookahead : Loc
    at_lookahead = empty_place (lookahead_start (in_hand l)) w.symbols

    abbrev symbol_of : Rule → Value → Spanned Value
    symbol_of rule value = let at = span (popped rule.length w.symbols) at_lookahead in (at.0, value, at.1)

    goto_known : (rule : Rule) (value : Value) (calls : List Call) (n : ℕ) (b : Bool)
        → Follows t items (reduces_to t items (after calls) rule value (Some n)) (on_answer (or_sticks (if b then Some (pos n) else None) (with_calls d calls) (λ to. Says (reduced_to rule (symbol_of rule value) w.states w.symbols to) (with_calls d calls))) go)
    goto_known rule value calls n true =
        let e : map number_of (below rule.length w.states ++ pos n ∷ []) ≡ below rule.length (map number_of w.states) ++ n ∷ [] = one_number (below rule.length w.states) n ∙ ap (λ ns. ns ++ n ∷ []) (sym (below_numbers rule.length w.states)) in
        subst (λ ns. Follows t items (ready t items (record (after calls) { states = ns; triples = reduced_triples (after calls) rule value })) (go (reduced_to rule (symbol_of rule value) w.states w.symbols (pos n)) (with_calls d calls))) e
        (ways.goes calls (below rule.length w.states ++ pos n ∷ []) (below rule.length w.symbols ++ symbol_of rule value ∷ []))
    goto_known rule value calls n false =
        halts t items _ Stuck (with_stuck (with_calls d calls))
        (ready_keeps t items (record (after calls) { states = below rule.length (map number_of w.states) ++ n ∷ []; triples = reduced_triples (after calls) rule value }))

    goto_goes : (rule : Rule) (value : Value) (calls : List Call) (o : Option ℕ)
        → Follows t items (reduces_to t items (after calls) rule value o) (on_answer (or_sticks (state_of o) (with_calls d calls) (λ to. Says (reduced_to rule (symbol_of rule value) w.states w.symbols to) (with_calls d calls))) go)
    goto_goes rule value calls None = halts t items _ Stuck (with_stuck (with_calls d calls)) (no_action_keeps t items (after calls))
    goto_goes rule value calls (Some n) = goto_known rule value calls n (nat_lt n (2 ^ 31))

    start_goes : (rule : Rule) (value : Value) (calls : List Call) (b : Bool)
        → Follows t items (if b then over (after calls) (result_at m (in_hand l) value) else with_left (after calls) (Reduces rule value))
        (on_answer (if b then Says (ending_with (Gives value)) (with_calls d calls) else goes_to rule (symbol_of rule value) w.states w.symbols (with_calls d calls)) go)
    start_goes rule value calls true = ways.valued calls value
    start_goes rule value calls false =
        let move : Leads t items (with_left (after calls) (Reduces rule value)) (reduces_to t items (after calls) rule value (goto_from t (last_of (below rule.length (map number_of w.states))) rule.nonterminal)) = (suc zero, refl) in
        before t items _ _ _ move
        (subst (λ ns. Follows t items (reduces_to t items (after calls) rule value (goto_from t (last_of ns) rule.nonterminal)) (on_answer (goes_to rule (symbol_of rule value) w.states w.symbols (with_calls d calls)) go)) (sym (below_numbers rule.length w.states))
        (goto_goes rule value calls (goto_from t (last_of (map number_of (below rule.length w.states))) rule.nonterminal)))

    called_goes : (rule : Rule) (r : Result Value Failure) (calls : List Call)
        → Follows t items (called t items (after calls) rule r) (on_answer (reduced_by rule r at_lookahead w.states w.symbols (with_calls d calls)) go)
    called_goes rule (Err f) calls = ways.failed calls f
    called_goes rule (Ok value) calls = start_goes rule value calls rule.is_start

    fitting_goes : (otherwise : Config) → otherwise.calls ≡ d.calls → (rule : Rule) (b : Bool)
        → Follows t items (reduces_or t items (stacks_of w d.calls taken l m) otherwise (if b then None else Some rule))
        (on_answer (if b then sticks d else reduces_with rule (t.act rule.action (popped rule.length w.symbols) (at_lookahead, at_lookahead) (length d.calls)) at_lookahead w.states w.symbols d) go)
    fitting_goes otherwise same rule true = halts t items _ Stuck (with_stuck d) same
    fitting_goes otherwise same rule false =
        let acted = t.act rule.action (popped rule.length w.symbols) (at_lookahead, at_lookahead) (length d.calls) in
        before t items _ _ _ (calls_lead t items (stacks_of w d.calls taken l m) rule acted.calls acted.result) (called_goes rule acted.result acted.calls)

    rule_goes : (otherwise : Config) → otherwise.calls ≡ d.calls → (o : Option Rule)
        → Follows t items (reduces_or t items (stacks_of w d.calls taken l m) otherwise (reducible_by t items (stacks_of w d.calls taken l m) o))
        (on_answer (or_sticks o d (λ rule. reduce_by rule (lookahead_start (in_hand l)) w.states w.symbols d)) go)
    rule_goes otherwise same None = halts t items _ Stuck (with_stuck d) same
    rule_goes otherwise same (Some rule) = fitting_goes otherwise same rule (nat_lt (length w.symbols) rule.length)

    pub reduction_goes : (otherwise : Config) → otherwise.calls ≡ d.calls → (p : ℕ)
        → Follows t items (reduces_or t items (stacks_of w d.calls taken l m) otherwise (reducible t items (stacks_of w d.calls taken l m) p))
        (on_answer (reduce (pos p) (lookahead_start (in_hand l)) w.states w.symbols d) go)
    reduction_goes otherwise same p = rule_goes otherwise same (t.rule p)
