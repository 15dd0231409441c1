-- The machine's moves one by one, where no grammar mends errors.
use Rattle.std.proofs.Common.{◌≡◌, ℕ, ◌+◌, ◌<◌, ◌≤◌, Bool, true, false, List, [], ◌∷◌, ◌++◌, length, Option, Some, None, Result, Ok, Err, refl, sym, ap, ◌∙◌, subst, arith}
use Rattle.std.specs.Prelude.{IsSome, is_some, nat_lt, slice_get, if◌then◌else◌, ◌==◌}
use Rattle.std.proofs.lemmas.Bool.{lt-ltb, le-ltb}
use Rattle.std.proofs.lemmas.Bool.Decides.{nat_tests}
use Rattle.std.proofs.lemmas.Option.{slice_get_within}
use Rattle.lp_repr.specs.declared.values.RunItem.{RunItem}
use Rattle.lp_driver.specs.declared.answers.Expecting.{Expecting}
use Rattle.lp_driver.specs.declared.answers.Expecting.TheVariants.{Trial, Actions}
use Rattle.lp_driver.specs.DriverState.{last_of}
use Rattle.lp_driver.specs.Values.{Token, Spanned, Value, Failure, Ending}
use Rattle.lp_machine.specs.declared.calls.Acted.{Acted}
use Rattle.lp_machine.specs.declared.calls.Call.{Call}
use Rattle.lp_machine.specs.declared.config.Config.{Config}
use Rattle.lp_machine.specs.declared.config.Left.{Left}
use Rattle.lp_machine.specs.declared.config.Left.TheVariants.{Pulls, Shifts, Reduces, Over}
use Rattle.lp_machine.specs.declared.config.Listing.{Listing}
use Rattle.lp_machine.specs.declared.config.Lookahead.{Lookahead}
use Rattle.lp_machine.specs.declared.config.Mending.{Mending}
use Rattle.lp_machine.specs.declared.lookup.Act.{Act}
use Rattle.lp_machine.specs.declared.lookup.Act.TheVariants.{Shift, ReduceBy, NoAction}
use Rattle.lp_machine.specs.declared.lookup.Rule.{Rule}
use Rattle.lp_machine.specs.ExpectedList.{action_on, action_on_error, goto_from, names_with_action}
use Rattle.lp_machine.specs.Move.{pulls, shifted_triples, shifts, reduces_to, move, moves}
use Rattle.lp_machine.specs.Moves.{valued, called, calls_next, acted, looks, reducible, reduces_or, mends_by, asks_error, completes, tries_next, errs_by, errs, no_action, does, asks_in, asks, ready_from, ready}
use Rattle.lp_machine.specs.ReductionSpan.{below}
use Rattle.lp_machine.specs.RunEnds.{ended}
use Rattle.lp_machine.specs.StackMachine.{with_left, over, failure_at, lookahead_token, lookahead_terminal, reduced_triples, result_at}
use Rattle.lp_machine.specs.Tables.{Tables}
use Rattle.lp_machine.proofs.ExpectedLists.{chosen}
use Rattle.lp_turn_laws.specs.Alike.Course.{Leads}
use Rattle.lp_turn_laws.proofs.Alike.Counted.{one, rest_ends}
use Rattle.lp_turn_laws.proofs.Alike.Reduced.{calls_lead}

-- only what is left is set, whatever was left
abbrev pub SetsLeft : (Config → Config) → Type 0
SetsLeft f = (c : Config) (l : Left) → f (with_left c l) ≡ with_left c (f c).left

pub sets_left : (f : Config → Config) → SetsLeft f → (c : Config) → f c ≡ with_left c (f c).left
sets_left f h c = h c c.left

-- so what was left makes no difference, and once is enough
pub left_aside : (f : Config → Config) → SetsLeft f → (c : Config) (l : Left) → f (with_left c l) ≡ f c
left_aside f h c l = h c l ∙ sym (h c c.left)

pub once : (f : Config → Config) → SetsLeft f → (c : Config) → f (f c) ≡ f c
once f h c = ap f (h c c.left) ∙ left_aside f h c (f c).left

either_sets : (b : Bool) (f g : Config → Config) → SetsLeft f → SetsLeft g → SetsLeft (λ c. if b then f c else g c)
either_sets true f g h k c l = h c l
either_sets false f g h k c l = k c l

module _ (t : Tables) (items : List RunItem) where
  pub valued_sets : (rule : Rule) (value : Value) → SetsLeft (λ c. valued t items c rule value)
  valued_sets rule value = either_sets rule.is_start (λ c. over c (result_at c.mending c.lookahead value)) (λ c. with_left c (Reduces rule value)) (λ c l. refl) (λ c l. refl)

  pub called_sets : (rule : Rule) (r : Result Value Failure) → SetsLeft (λ c. called t items c rule r)
  called_sets rule (Ok value) c l = valued_sets rule value c l
  called_sets rule (Err f) c l = refl

  pub next_sets : (rule : Rule) (calls : List Call) (r : Result Value Failure) → SetsLeft (λ c. calls_next t items c rule calls r)
  next_sets rule calls r = either_sets (length calls == 0) (λ c. called t items c rule r) _ (called_sets rule r) (λ c l. refl)

  reduces_set : (otherwise : Config → Config) → SetsLeft otherwise → (o : Option Rule) → SetsLeft (λ c. reduces_or t items c (otherwise c) o)
  reduces_set otherwise h None c l = h c l
  reduces_set otherwise h (Some rule) c l = next_sets rule (acted t items c rule).calls (acted t items c rule).result c l

  mends_sets : (act : Act) → SetsLeft (λ c. mends_by t items c act)
  mends_sets NoAction c l = refl
  mends_sets (Shift to) c l = refl
  mends_sets (ReduceBy p) c l = reduces_set (looks t items) (λ c l. refl) (reducible t items c p) c l

  error_sets : SetsLeft (asks_error t items)
  error_sets c l = mends_sets (action_on_error t (last_of c.states)) c l

  -- an error that isn't mended ends the run once its list is complete
  pub completes_is : (listing : Listing) → listing.mends ≡ false → (c : Config) → completes t items c listing ≡ over c (Err (failure_at c.last listing.token listing.found))
  completes_is listing whole c = chosen listing.mends false _ _ whole

  completes_sets : (listing : Listing) → listing.mends ≡ false → SetsLeft (λ c. completes t items c listing)
  completes_sets listing whole c l = completes_is listing whole (with_left c l) ∙ ap (λ (x : Config). with_left c x.left) (sym (completes_is listing whole c))

  pub tries_set : (listing : Listing) → listing.mends ≡ false → (i : ℕ) → SetsLeft (λ c. tries_next t items c listing i)
  tries_set listing whole i = either_sets (nat_lt i (length t.names)) _ _ (λ c l. refl) (completes_sets listing whole)

  errs_by_sets : (e : Expecting) (token : Option (Spanned Token)) → SetsLeft (λ c. errs_by t items e c token false)
  errs_by_sets Trial token c l = tries_set (record { token = token; mends = false; found = [] }) refl 0 c l
  errs_by_sets Actions token c l = completes_sets (record { token = token; mends = false; found = names_with_action t (last_of c.states) 0 t.names }) refl c l

  pub errs_sets : (token : Option (Spanned Token)) → SetsLeft (λ c. errs t items c token false)
  errs_sets token = errs_by_sets t.expecting token

  module _ (never : t.error ≡ None) where
    pub no_action_is : (c : Config) → no_action t items c ≡ errs t items c (lookahead_token c.lookahead) false
    no_action_is c = ap (λ (o : Option ℕ). errs t items c (lookahead_token c.lookahead) (is_some o)) never

    no_action_sets : SetsLeft (no_action t items)
    no_action_sets c l = no_action_is (with_left c l) ∙ errs_sets (lookahead_token c.lookahead) c l ∙ ap (λ (x : Config). with_left c x.left) (sym (no_action_is c))

    does_sets : (act : Act) → SetsLeft (λ c. does t items c act)
    does_sets NoAction c l = no_action_sets c l
    does_sets (Shift to) c l = refl
    does_sets (ReduceBy p) c l = reduces_set (no_action t items) no_action_sets (reducible t items c p) c l

    asks_in_sets : (m : Option Mending) → SetsLeft (asks_in t items m)
    asks_in_sets (Some m) c l = error_sets c l
    asks_in_sets None c l = does_sets (action_on t (last_of c.states) (lookahead_terminal c.lookahead)) c l

    pub asks_sets : SetsLeft (asks t items)
    asks_sets c l = asks_in_sets c.mending c l

    ready_from_sets : (hand : Option Lookahead) → SetsLeft (λ c. ready_from t items c hand)
    ready_from_sets None c l = either_sets (nat_lt c.taken (length items)) (λ c. with_left c Pulls) (asks t items) (λ c l. refl) asks_sets c l
    ready_from_sets (Some x) c l = asks_sets c l

    pub ready_sets : SetsLeft (ready t items)
    ready_sets c l = ready_from_sets c.lookahead c l

  -- ---- no move before the end
  -- where a move is left in each of so many configurations, the run isn't over before the last of these moves
  pub leads_while : (c : Config) (m : ℕ) → ((k : ℕ) → k < m → ended (moves t items k c).left ≡ None) → Leads t items c (moves t items m c) m
  leads_while c m goes = record { comes = refl; before = λ k e h. by k e h (nat_lt k m) refl }
    where
      by : (k : ℕ) (e : Ending) → ended (moves t items k c).left ≡ Some e → (b : Bool) → nat_lt k m ≡ b → m ≤ k
      by k e h false is = grind (arith, nat_tests)
      by k e h true is = (let less : k < m = grind (arith, nat_tests) in let g = goes k less in cc)

  -- an end after moves is one after the rest of them
  pub ends_later : (a b : Config) (m k : ℕ) → Leads t items a b m → IsSome (ended (moves t items k a).left) → (j : ℕ) × (k ≡ m + j) × IsSome (ended (moves t items j b).left)
  ends_later a b m k l h = by (ended (moves t items k a).left) refl h
    where
      by : (o : Option Ending) → ended (moves t items k a).left ≡ o → IsSome o → (j : ℕ) × (k ≡ m + j) × IsSome (ended (moves t items j b).left)
      by None e h = cc
      by (Some end) e h = (let r = rest_ends t items a b m k end l e in (r.0, r.1, subst IsSome (sym r.2) refl))

  -- ---- what is asked is left
  does_of : (c : Config) (act : Act) → c.mending ≡ None → c ≡ asks t items c → action_on t (last_of c.states) (lookahead_terminal c.lookahead) ≡ act → c ≡ does t items c act
  does_of c act whole asked is = asked ∙ ap (λ (m : Option Mending). asks_in t items m c) whole ∙ ap (does t items c) is

  -- a reduction's calls are made, and then its goto is left, or the start's ends the run; without a value it fails
  abbrev pub after_calls : Config → Rule → Config
  after_calls c rule = record c { calls = c.calls ++ (acted t items c rule).calls }

  module _ (c : Config) (p : ℕ) (rule : Rule) (whole : c.mending ≡ None) (asked : c ≡ asks t items c) (is : action_on t (last_of c.states) (lookahead_terminal c.lookahead) ≡ ReduceBy p) (on_stack : reducible t items c p ≡ Some rule) where
    abbrev act : Acted
    act = acted t items c rule

    reduction : Leads t items c (called t items (after_calls c rule) rule act.result) (length act.calls)
    reduction =
        let begins : c ≡ calls_next t items c rule act.calls act.result = does_of c (ReduceBy p) whole asked is ∙ ap (reduces_or t items c (no_action t items c)) on_stack in
        let from : calls_next t items (with_left c Pulls) rule act.calls act.result ≡ c = left_aside (λ c. calls_next t items c rule act.calls act.result) (next_sets rule act.calls act.result) c Pulls ∙ sym begins in
        let to : called t items (with_left (after_calls c rule) Pulls) rule act.result ≡ called t items (after_calls c rule) rule act.result = left_aside (λ c. called t items c rule act.result) (called_sets rule act.result) (after_calls c rule) Pulls in
        subst (λ (b : Config). Leads t items c b (length act.calls)) to
        (subst (λ (x : Config). Leads t items x (called t items (with_left (after_calls c rule) Pulls) rule act.result) (length act.calls)) from
        (calls_lead t items c rule act.calls act.result))

    pub reduction_gives : (value : Value) → act.result ≡ Ok value → Leads t items c (valued t items (after_calls c rule) rule value) (length act.calls)
    reduction_gives value gives = subst (λ (r : Result Value Failure). Leads t items c (called t items (after_calls c rule) rule r) (length act.calls)) gives reduction

    pub reduction_fails : (f : Failure) → act.result ≡ Err f → Leads t items c (over (after_calls c rule) (Err f)) (length act.calls)
    reduction_fails f fails = subst (λ (r : Result Value Failure). Leads t items c (called t items (after_calls c rule) rule r) (length act.calls)) fails reduction

  goto_or : (c : Config) (rule : Rule) (value : Value) (start : Bool) → c ≡ valued t items c rule value → rule.is_start ≡ start → c ≡ (if start then over c (result_at c.mending c.lookahead value) else with_left c (Reduces rule value))
  goto_or c rule value start pending is = pending ∙ chosen rule.is_start start _ _ is

  pub start_ends : (c : Config) (rule : Rule) (value : Value) → c ≡ valued t items c rule value → rule.is_start ≡ true → c.left ≡ Over (result_at c.mending c.lookahead value)
  start_ends c rule value pending start = ap (λ (x : Config). x.left) (goto_or c rule value true pending start)

  -- ---- an item is taken
  pulls_or : (c : Config) (more : Bool) → c.lookahead ≡ None → c ≡ ready t items c → nat_lt c.taken (length items) ≡ more → c ≡ (if more then with_left c Pulls else asks t items c)
  pulls_or c more none is at = is ∙ ap (ready_from t items c) none ∙ chosen (nat_lt c.taken (length items)) more _ _ at

  pub pull : (c : Config) (next : RunItem) → c.lookahead ≡ None → c ≡ ready t items c → slice_get items c.taken ≡ Some next → Leads t items c (pulls t items c (Some next)) 1
  pull c next none is at =
      let left : c ≡ with_left c Pulls = pulls_or c true none is (lt-ltb c.taken (length items) (slice_get_within items c.taken next at)) in
      one t items c (pulls t items c (Some next)) (ap (λ (x : Config). ended x.left) left)
      (ap (move t items) left ∙ ap (pulls t items (with_left c Pulls)) at ∙ ap (λ (x : Config). pulls t items x (Some next)) (sym left))

  -- and without one the end is asked for
  pub ends_there : (c : Config) → c.lookahead ≡ None → c ≡ ready t items c → length items ≤ c.taken → c ≡ asks t items c
  ends_there c none is past = pulls_or c false none is (le-ltb c.taken (length items) past)

  module _ (never : t.error ≡ None) where
    -- there is no action
    pub no_action_left : (c : Config) → c.mending ≡ None → c ≡ asks t items c → action_on t (last_of c.states) (lookahead_terminal c.lookahead) ≡ NoAction → c ≡ errs t items c (lookahead_token c.lookahead) false
    no_action_left c whole asked is = does_of c NoAction whole asked is ∙ no_action_is never c

    -- a state is shifted to
    pub shift : (c : Config) (to : ℕ) → c.mending ≡ None → c ≡ asks t items c → action_on t (last_of c.states) (lookahead_terminal c.lookahead) ≡ Shift to → Leads t items c (shifts t items c to) 1
    shift c to whole asked is =
        let left : c ≡ with_left c (Shifts to) = does_of c (Shift to) whole asked is in
        one t items c (shifts t items c to) (ap (λ (x : Config). ended x.left) left)
        (ap (move t items) left ∙ left_aside (ready t items) (ready_sets never) (record c { states = c.states ++ to ∷ []; triples = shifted_triples t items c c.lookahead; lookahead = None }) Pulls)

    -- a reduction with a goto makes it
    pub goes_to : (c : Config) (rule : Rule) (value : Value) (to : ℕ) → c ≡ valued t items c rule value → rule.is_start ≡ false → goto_from t (last_of (below rule.length c.states)) rule.nonterminal ≡ Some to
        → Leads t items c (reduces_to t items c rule value (Some to)) 1
    goes_to c rule value to pending start is =
        let left : c ≡ with_left c (Reduces rule value) = goto_or c rule value false pending start in
        one t items c (reduces_to t items c rule value (Some to)) (ap (λ (x : Config). ended x.left) left)
        (ap (move t items) left ∙ ap (reduces_to t items (with_left c Pulls) rule value) is
        ∙ left_aside (ready t items) (ready_sets never) (record c { states = below rule.length c.states ++ to ∷ []; triples = reduced_triples c rule value }) Pulls)
