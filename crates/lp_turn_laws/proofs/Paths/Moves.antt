-- Every configuration that a machine over valid tables reaches stands on a path: one lemma for each kind of move.
use Rattle.std.proofs.Common.{◌≡◌, ◌≢◌, ℕ, zero, suc, ◌+◌, ◌-◌, ◌≤◌, Bool, true, false, cond, List, [], ◌∷◌, ◌++◌, length, take, drop, Option, Some, None, Result, Ok, Err, nat_lt, ◌==◌, slice_get, refl, sym, ap, ◌∙◌, subst, arith}
use Rattle.std.specs.Prelude.{is_some}
use Rattle.std.proofs.lemmas.List.{length_push, length-take-le}
use Rattle.std.proofs.lemmas.Option.{same_Some, none-some, slice_get_within}
use Rattle.lp_repr.specs.Numbering as by_symbols
use Rattle.lp_repr.specs.ValidTables.{start_number, IsValidTables}
use Rattle.lp_repr.specs.declared.repr.Grammar.{Grammar}
use Rattle.lp_repr.specs.declared.lr1.Lr1State.{Lr1State}
use Rattle.lp_repr.specs.declared.numbering.Rule as numbering
use Rattle.lp_repr.specs.declared.numbering.SymbolNumber.{SymbolNumber}
use Rattle.lp_repr.specs.declared.numbering.SymbolNumber.TheVariants as symbol
use Rattle.lp_repr.specs.declared.values.Loc.{Loc}
use Rattle.lp_repr.specs.declared.values.Loc.TheVariants.{Default}
use Rattle.lp_repr.specs.declared.values.RunItem.{RunItem}
use Rattle.lp_repr.specs.declared.values.RunItem.TheVariants as item
use Rattle.lp_driver.specs.DriverState.{last_of}
use Rattle.lp_driver.specs.Values.{Token, Spanned, Value, Failure}
use Rattle.lp_driver.specs.declared.answers.Expecting.{Expecting}
use Rattle.lp_driver.specs.declared.answers.Expecting.TheVariants.{Trial, Actions}
use Rattle.lp_machine.specs.declared.lookup.Act.{Act}
use Rattle.lp_machine.specs.declared.lookup.Act.TheVariants.{Shift, ReduceBy, NoAction}
use Rattle.lp_machine.specs.declared.lookup.Rule.{Rule}
use Rattle.lp_machine.specs.declared.calls.Call.{Call}
use Rattle.lp_machine.specs.declared.config.Lookahead.{Lookahead}
use Rattle.lp_machine.specs.declared.config.Listing.{Listing}
use Rattle.lp_machine.specs.declared.config.Mending.{Mending}
use Rattle.lp_machine.specs.declared.config.Left.{Left}
use Rattle.lp_machine.specs.declared.config.Left.TheVariants.{Pulls, Shifts, Calls, Reduces, Tries, Simulates, Looks, Checks, Drops, Over}
use Rattle.lp_machine.specs.declared.config.Config.{Config}
use Rattle.lp_machine.specs.declared.verdict.Verdict.{Verdict}
use Rattle.lp_machine.specs.declared.verdict.Verdict.TheVariants.{Yes, No, GoesOn}
use Rattle.lp_machine.specs.Tables.{Tables}
use Rattle.lp_machine.specs.ReductionSpan.{below}
use Rattle.lp_machine.specs.StackMachine.{with_left, over, failure_at, reduced_triples, lookahead_start, lookahead_token, lookahead_terminal, result_at}
use Rattle.lp_machine.specs.Recovery.{shift_of, mended_at, dropped_with}
use Rattle.lp_machine.specs.ExpectedList.{action_on, action_on_error_of, action_on_error, goto_from, pushed, reduced_stack, verdict_by_rule, verdict_by, verdict}
use Rattle.lp_machine.specs.Moves.{valued, called, calls_next, acted, looks, reducible_by, reducible, reduces_or, mends_by, asks_error, completes, tries_next, errs_by, errs, no_action, does, asks_in, asks, ready_from, ready, first}
use Rattle.lp_machine.specs.Move.{takes, pulls, shifts, makes_call, reduces_to, reduces, tried, drops_or, looks_below, mends, checked, checks, looks_by, looks_at, taken_after, drops, dropping, makes, move, moves, token_in, shifted_triples}
use Rattle.lp_valid.specs.ValidGrammar.{IsValidGrammar}
use Rattle.lp_turn_laws.specs.Paths.Stacks.{IsReduced}
use Rattle.lp_turn_laws.specs.Paths.Standing.{LooksUp, IsOnPath, IsMade, StandsOn, IsReducible, IsShift, IsMended, LeftStands, IsStanding}
use Rattle.lp_turn_laws.specs.Paths.Walks.{edge_at, IsPath}
use Rattle.lp_turn_laws.proofs.Paths.Edges.{one_at}
use Rattle.lp_turn_laws.proofs.Paths.Acts.{machine_reduces, machine_shifts, machine_goto}
use Rattle.lp_turn_laws.proofs.Paths.MachineRules.{agree}
use Rattle.lp_turn_laws.proofs.Paths.Stacks.{path_first, path_length, path_push, path_take, path_reduced}

-- ---- what is known of a stack
-- a rule that is reduced is one that was looked up
reducible_from : (t : Tables) (items : List RunItem) (c : Config) (o : Option Rule) (rule : Rule) → reducible_by t items c o ≡ Some rule → o ≡ Some rule
reducible_from t items c None rule e = absurd (none-some rule e)
reducible_from t items c (Some m) rule e =
    elim (nat_lt (length c.triples) m.length) as (λ b. cond b None (Some m) ≡ Some rule → Some m ≡ Some rule) [ true ↦ λ h. absurd (none-some rule h) | false ↦ λ h. h ] e

-- a lookahead whose terminal is known is in hand
ahead_from : (o : Option Lookahead) (i : ℕ) → lookahead_terminal o ≡ Some i → (l : Lookahead) × (o ≡ Some l) × (l.index ≡ i)
ahead_from None i e = absurd (none-some i e)
ahead_from (Some l) i e = (l, refl, same_Some l.index i e)

-- the last of the first elements
pub last_taken : {X : Type 0} (xs : List X) (i : ℕ) (x : X) → slice_get xs i ≡ Some x → last_of (take (suc i) xs) ≡ Some x
last_taken xs i x e =
    let l = slice_get_within xs i x e in
    let n = length-take-le (suc i) xs (omega arith) in
    let k : length (take (suc i) xs) - 1 ≡ i = omega arith in
    ap (slice_get (take (suc i) xs)) k ∙ taken_at xs i x e
  where
    taken_at : {Y : Type 0} (ys : List Y) (i : ℕ) (y : Y) → slice_get ys i ≡ Some y → slice_get (take (suc i) ys) i ≡ Some y
    taken_at [] i y e = absurd (none-some y e)
    taken_at (z ∷ ys) zero y e = e
    taken_at (z ∷ ys) (suc i) y e = taken_at ys i y e

module _ (g : Grammar) (states : List Lr1State) (t : Tables) (items : List RunItem) where
  -- ---- what is left next, where no table is asked
  -- a run that is over stands
  over_stands : (c : Config) (result : Result Value Failure) → StandsOn states c.states (length c.triples) → IsStanding g states (over c result)
  over_stands c result b = record { stands = b; left = tt }

  -- one that looks at prefixes stands
  looks_stands : (c : Config) → StandsOn states c.states (length c.triples) → IsStanding g states (looks t items c)
  looks_stands c b = record { stands = b; left = tt }

  -- a reduction with a value is left, or the run is over
  valued_stands : (c : Config) (rule : Rule) (value : Value) → StandsOn states c.states (length c.triples) → IsReducible g states c.states rule → IsStanding g states (valued t items c rule value)
  valued_stands c rule value b r =
      elim rule.is_start as (λ s. rule.is_start ≡ s → IsStanding g states (cond s (over c (result_at c.mending c.lookahead value)) (with_left c (Reduces rule value)))) [
        | true ↦ λ e. over_stands c (result_at c.mending c.lookahead value) b
        | false ↦ λ e. record { stands = b; left = (r, e) }
      ] refl

  -- a reduction whose calls are made
  called_stands : (c : Config) (rule : Rule) (result : Result Value Failure) → StandsOn states c.states (length c.triples) → IsReducible g states c.states rule → IsStanding g states (called t items c rule result)
  called_stands c rule (Ok value) b r = valued_stands c rule value b r
  called_stands c rule (Err f) b r = over_stands c (Err f) b

  -- a reduction with calls to make
  calls_stand : (c : Config) (rule : Rule) (calls : List Call) (result : Result Value Failure) → StandsOn states c.states (length c.triples) → IsReducible g states c.states rule → IsStanding g states (calls_next t items c rule calls result)
  calls_stand c rule calls result b r =
      elim (length calls == 0) as (λ s. IsStanding g states (cond s (called t items c rule result) (with_left c (Calls rule calls result)))) [
        | true ↦ called_stands c rule result b r
        | false ↦ record { stands = b; left = r }
      ]

  -- a reduction, where there is a rule
  reduces_or_stands : (c otherwise : Config) (o : Option Rule) → StandsOn states c.states (length c.triples) → ((rule : Rule) → o ≡ Some rule → IsReducible g states c.states rule) → IsStanding g states otherwise → IsStanding g states (reduces_or t items c otherwise o)
  reduces_or_stands c otherwise None b r h = h
  reduces_or_stands c otherwise (Some rule) b r h =
      calls_stand c rule (acted t items c rule).calls (acted t items c rule).result b (r rule refl)

module _ (g : Grammar) (start : ℕ) (states : List Lr1State) (valid : IsValidTables g start states) (t : Tables) (known : LooksUp g states t) (items : List RunItem) where
  -- ---- what is left next, by what the top state does
  -- a reduction that the top state makes
  pub reducible_at : (stack : List ℕ) (terminal : Option ℕ) (p : ℕ) (rule : Rule) → action_on t (last_of stack) terminal ≡ ReduceBy p → t.rule p ≡ Some rule → IsReducible g states stack rule
  reducible_at stack terminal p rule e m =
      let w = machine_reduces g start states valid t known (last_of stack) terminal p e in
      record { state = w.0; top = w.1; production = p; by_symbols = w.2; at = w.3; known = sym (known.rule p) ∙ m; complete = w.4 }

  -- it is of the production that was looked up
  pub reducible_is : (stack : List ℕ) (terminal : Option ℕ) (p : ℕ) (rule : Rule) (e : action_on t (last_of stack) terminal ≡ ReduceBy p) (m : t.rule p ≡ Some rule) → (reducible_at stack terminal p rule e m).production ≡ p
  unfolding reducible_at
  reducible_is stack terminal p rule e m = refl

  -- what the top state does on the error terminal
  mends_stand : (c : Config) (terminal : Option ℕ) (act : Act) → action_on t (last_of c.states) terminal ≡ act → StandsOn states c.states (length c.triples) → IsStanding g states (mends_by t items c act)
  mends_stand c terminal NoAction e b = looks_stands g states t items c b
  mends_stand c terminal (Shift to) e b = looks_stands g states t items c b
  mends_stand c terminal (ReduceBy p) e b =
      reduces_or_stands g states t items c (looks t items c) (reducible t items c p) b (λ rule m. reducible_at c.states terminal p rule e (reducible_from t items c (t.rule p) rule m)) (looks_stands g states t items c b)

  -- the same, where there is an error terminal
  asks_error_by : (c : Config) (o : Option ℕ) → StandsOn states c.states (length c.triples) → IsStanding g states (mends_by t items c (action_on_error_of t o (last_of c.states)))
  asks_error_by c None b = looks_stands g states t items c b
  asks_error_by c (Some e) b = mends_stand c (Some e) (action_on t (last_of c.states) (Some e)) refl b

  -- the same of the machine's error terminal
  asks_error_stands : (c : Config) → StandsOn states c.states (length c.triples) → IsStanding g states (asks_error t items c)
  asks_error_stands c b = asks_error_by c t.error b

  -- an expected list is complete
  completes_stands : (c : Config) (listing : Listing) → StandsOn states c.states (length c.triples) → IsStanding g states (completes t items c listing)
  completes_stands c listing b =
      elim listing.mends as (λ s. IsStanding g states (cond s (asks_error t items (record c { mending = Some (record { error = failure_at c.last listing.token listing.found; dropped = [] }) })) (over c (Err (failure_at c.last listing.token listing.found))))) [
        | true ↦ asks_error_stands (record c { mending = Some (record { error = failure_at c.last listing.token listing.found; dropped = [] }) }) b
        | false ↦ over_stands g states t items c (Err (failure_at c.last listing.token listing.found)) b
      ]

  -- the next terminal is tried, or the list is complete
  tries_stands : (c : Config) (listing : Listing) (i : ℕ) → StandsOn states c.states (length c.triples) → IsStanding g states (tries_next t items c listing i)
  tries_stands c listing i b =
      elim (nat_lt i (length t.names)) as (λ s. IsStanding g states (cond s (with_left c (Tries listing i)) (completes t items c listing))) [
        | true ↦ record { stands = b; left = tt }
        | false ↦ completes_stands c listing b
      ]

  -- an error, by how lists are made
  errs_by_stands : (e : Expecting) (c : Config) (token : Option (Spanned Token)) (mends : Bool) → StandsOn states c.states (length c.triples) → IsStanding g states (errs_by t items e c token mends)
  errs_by_stands Trial c token mends b = tries_stands c _ 0 b
  errs_by_stands Actions c token mends b = completes_stands c _ b

  -- an error
  errs_stands : (c : Config) (token : Option (Spanned Token)) (mends : Bool) → StandsOn states c.states (length c.triples) → IsStanding g states (errs t items c token mends)
  errs_stands c token mends b = errs_by_stands t.expecting c token mends b

  -- the top state has no action
  no_action_stands : (c : Config) → StandsOn states c.states (length c.triples) → IsStanding g states (no_action t items c)
  no_action_stands c b = errs_stands c (lookahead_token c.lookahead) (is_some t.error) b

  -- what the top state does on the lookahead
  does_stands : (c : Config) (act : Act) → action_on t (last_of c.states) (lookahead_terminal c.lookahead) ≡ act → StandsOn states c.states (length c.triples) → IsStanding g states (does t items c act)
  does_stands c NoAction e b = no_action_stands c b
  does_stands c (Shift to) e b =
      let w = machine_shifts g start states valid t known (last_of c.states) (lookahead_terminal c.lookahead) to e in
      let l = ahead_from c.lookahead w.2 w.3 in
      record { stands = b; left = record { state = w.0; top = w.1; token = l.0; ahead = l.1; edge = ap (λ (i : ℕ). edge_at states w.0 (symbol.Terminal i)) l.2 ∙ w.4 } }
  does_stands c (ReduceBy p) e b =
      reduces_or_stands g states t items c (no_action t items c) (reducible t items c p) b (λ rule m. reducible_at c.states (lookahead_terminal c.lookahead) p rule e (reducible_from t items c (t.rule p) rule m)) (no_action_stands c b)

  -- what is left, while an error is mended or not
  asks_in_stands : (o : Option Mending) (c : Config) → StandsOn states c.states (length c.triples) → IsStanding g states (asks_in t items o c)
  asks_in_stands (Some mending) c b = asks_error_stands c b
  asks_in_stands None c b = does_stands c (action_on t (last_of c.states) (lookahead_terminal c.lookahead)) refl b

  -- what is left next
  asks_stands : (c : Config) → StandsOn states c.states (length c.triples) → IsStanding g states (asks t items c)
  asks_stands c b = asks_in_stands c.mending c b

  -- an item is taken first, where no token is in hand
  ready_from_stands : (o : Option Lookahead) (c : Config) → StandsOn states c.states (length c.triples) → IsStanding g states (ready_from t items c o)
  ready_from_stands (Some l) c b = asks_stands c b
  ready_from_stands None c b =
      elim (nat_lt c.taken (length items)) as (λ s. IsStanding g states (cond s (with_left c Pulls) (asks t items c))) [
        | true ↦ record { stands = b; left = tt }
        | false ↦ asks_stands c b
      ]

  -- the machine is ready
  ready_stands : (c : Config) → StandsOn states c.states (length c.triples) → IsStanding g states (ready t items c)
  ready_stands c b = ready_from_stands c.lookahead c b

  -- before any move
  pub first_stands : IsStanding g states (first t items)
  first_stands = ready_stands (record { states = 0 ∷ []; triples = []; lookahead = None; mending = None; taken = 0; last = Default; calls = []; left = Pulls }) (record { symbols = []; path = path_first states; same_count = refl })

  -- ---- moves that leave the stack as it is
  -- a token is in hand, or matches no terminal
  takes_stand : (c : Config) (token : Spanned Token) (o : Option ℕ) → StandsOn states c.states (length c.triples) → IsStanding g states (takes t items c token o)
  takes_stand c token None b = errs_stands c (Some token) false b
  takes_stand c token (Some i) b = asks_stands (record c { lookahead = Some (record { token = token; index = i }) }) b

  -- an item is taken
  pub pulls_stand : (c : Config) (o : Option RunItem) → StandsOn states c.states (length c.triples) → IsStanding g states (pulls t items c o)
  pulls_stand c None b = asks_stands c b
  pulls_stand c (Some (item.Fault name)) b = record { stands = b; left = tt }
  pulls_stand c (Some (item.Token x token y)) b = takes_stand _ (token_in t items x token y) (t.terminal token) b

  -- a call is made
  pub makes_call_stands : (c : Config) (rule : Rule) (calls : List Call) (result : Result Value Failure) → StandsOn states c.states (length c.triples) → IsReducible g states c.states rule → IsStanding g states (makes_call t items c rule calls result)
  makes_call_stands c rule [] result b r = calls_stand g states t items c rule [] result b r
  makes_call_stands c rule (call ∷ calls) result b r = calls_stand g states t items (record c { calls = c.calls ++ call ∷ [] }) rule calls result b r

  -- no prefix serves
  drops_or_stands : (c : Config) (m : Option Mending) (l : Option Lookahead) → StandsOn states c.states (length c.triples) → IsStanding g states (drops_or t items c m l)
  drops_or_stands c m (Some l) b = record { stands = b; left = tt }
  drops_or_stands c (Some m) None b = record { stands = b; left = tt }
  drops_or_stands c None None b = asks_stands c b

  -- the next prefix is looked at
  looks_below_stands : (c : Config) (place : ℕ) → StandsOn states c.states (length c.triples) → IsStanding g states (looks_below t items c place)
  looks_below_stands c zero b = drops_or_stands c c.mending c.lookahead b
  looks_below_stands c (suc place) b = record { stands = b; left = tt }

  -- the same after one was dropped
  taken_after_stands : (c : Config) (token : Spanned Token) (o : Option ℕ) → StandsOn states c.states (length c.triples) → IsStanding g states (taken_after t items c token o)
  taken_after_stands c token None b = errs_stands c (Some token) false b
  taken_after_stands c token (Some i) b = looks_stands g states t items (record c { lookahead = Some (record { token = token; index = i }) }) b

  -- the next item after one was dropped
  drops_stand : (c : Config) (o : Option RunItem) → StandsOn states c.states (length c.triples) → IsStanding g states (drops t items c o)
  drops_stand c None b = looks_stands g states t items c b
  drops_stand c (Some (item.Fault name)) b = record { stands = b; left = tt }
  drops_stand c (Some (item.Token x token y)) b = taken_after_stands _ (token_in t items x token y) (t.terminal token) b

  -- a token is dropped
  pub dropping_stands : (c : Config) (o : Option Mending) → StandsOn states c.states (length c.triples) → IsStanding g states (dropping t items c o)
  dropping_stands c None b = asks_stands c b
  dropping_stands c (Some m) b = drops_stand (record c { mending = Some (dropped_with m c.lookahead); lookahead = None }) (slice_get items c.taken) b

  -- ---- shifts
  -- one symbol more, and one triple
  shift_pushed : (stack : List ℕ) (triples more : List (Spanned Value)) (q : ℕ) (x : SymbolNumber) (to : ℕ) → StandsOn states stack (length triples) → length more ≡ length triples + 1 → last_of stack ≡ Some q → edge_at states q x ≡ Some to → StandsOn states (stack ++ to ∷ []) (length more)
  shift_pushed stack triples more q x to b n top e =
      let l = length_push b.symbols x in
      let k = b.same_count in
      record { symbols = b.symbols ++ x ∷ []; path = path_push states stack b.symbols q x to b.path top e; same_count = omega arith }

  -- a shift adds one triple
  shifted_count : (c : Config) (o : Option Lookahead) (l : Lookahead) → o ≡ Some l → length (shifted_triples t items c o) ≡ length c.triples + 1
  shifted_count c None l e = absurd (none-some l e)
  shifted_count c (Some k) l e = length_push c.triples _

  -- a shift
  pub shifts_stand : (c : Config) (to : ℕ) → StandsOn states c.states (length c.triples) → IsShift states c.states c.lookahead to → IsStanding g states (shifts t items c to)
  shifts_stand c to b s =
      ready_stands (record c { states = c.states ++ to ∷ []; triples = shifted_triples t items c c.lookahead; lookahead = None })
      (shift_pushed c.states c.triples (shifted_triples t items c c.lookahead) s.state (symbol.Terminal s.token.index) to b (shifted_count c c.lookahead s.token s.ahead) s.top s.edge)

  -- ---- the error symbol
  -- a prefix of the stack and the error symbol
  mended_path : (stack : List ℕ) (xs : List SymbolNumber) (place to : ℕ) → IsPath states stack xs → IsMended states stack place to → IsOnPath states (take (place + 1) stack ++ to ∷ [])
  mended_path stack xs place to path w =
      let k : place + 1 ≡ suc place = omega arith in
      let top : last_of (take (suc place) stack) ≡ Some w.state = last_taken stack place w.state w.at in
      let p = path_push states (take (suc place) stack) (take place xs) w.state (symbol.Terminal w.terminal) to (path_take states stack xs place path) top w.edge in
      (take place xs ++ symbol.Terminal w.terminal ∷ [], subst (λ (a : ℕ). IsPath states (take a stack ++ to ∷ []) (take place xs ++ symbol.Terminal w.terminal ∷ [])) (sym k) p)

  -- the stack of triples with the error symbol
  mended_count : (triples : List (Spanned Value)) (place : ℕ) (m : Mending) (at : Option Loc) → place ≤ length triples → length (mended_at triples place m at) ≡ place + 1
  mended_count triples place m at l = length_push (take place triples) _ ∙ ap (λ (k : ℕ). k + 1) (length-take-le place triples l)

  -- with its triple
  mended_on : (c : Config) (m : Mending) (place to : ℕ) → StandsOn states c.states (length c.triples) → IsMended states c.states place to → StandsOn states (take (place + 1) c.states ++ to ∷ []) (length (mended_at c.triples place m (lookahead_start c.lookahead)))
  mended_on c m place to b w =
      let l = slice_get_within c.states place w.state w.at in
      let n = b.same_count in
      let h = path_length states c.states b.symbols b.path in
      let p = mended_path c.states b.symbols place to b.path w in
      let i = mended_count c.triples place m (lookahead_start c.lookahead) (omega arith) in
      let j = path_length states (take (place + 1) c.states ++ to ∷ []) p.0 p.1 in
      let x = length_push (take (place + 1) c.states) to in
      let y = length-take-le (place + 1) c.states (omega arith) in
      record { symbols = p.0; path = p.1; same_count = omega (arith, i, j, x, y) }

  -- the error symbol is pushed
  pub mends_stands : (c : Config) (o : Option Mending) (place to : ℕ) → StandsOn states c.states (length c.triples) → IsMended states c.states place to → IsStanding g states (mends t items c o place to)
  mends_stands c None place to b w = asks_stands c b
  mends_stands c (Some m) place to b w =
      ready_stands (record c { states = take (place + 1) c.states ++ to ∷ []; triples = mended_at c.triples place m (lookahead_start c.lookahead); mending = None }) (mended_on c m place to b w)

  -- a state that shifts the error terminal
  error_shift : (o : Option ℕ) (act : Act) (to : ℕ) (e : Option ℕ) → action_on_error_of t e o ≡ act → shift_of act ≡ Some to → (q : ℕ) × (o ≡ Some q) × (i : ℕ) × (edge_at states q (symbol.Terminal i) ≡ Some to)
  error_shift o NoAction to e f h = absurd (none-some to h)
  error_shift o (ReduceBy p) to e f h = absurd (none-some to h)
  error_shift o (Shift j) to None f h = cc
  error_shift o (Shift j) to (Some i) f h =
      let w = machine_shifts g start states valid t known o (Some i) j f in
      (w.0, w.1, w.2, w.4 ∙ ap Some (same_Some j to h))

  module _ (grammar : IsValidGrammar g) (n : ℕ) (begun : start_number g start ≡ Some n) where
    -- ---- reductions
    -- a reduction that ends no run leads on
    pub made : (stack : List ℕ) (xs : List SymbolNumber) (rule : Rule) (r : IsReducible g states stack rule) → IsPath states stack xs → rule.is_start ≡ false → IsMade states t stack xs rule (r.by_symbols).right
    made stack xs rule r path e =
        let a = agree g grammar r.production rule r.known in
        let same = one_at (slice_get (by_symbols.rules_of g) r.production) a.rule r.by_symbols a.at r.at in
        let l : rule.length ≡ length (r.by_symbols).right = a.length_is ∙ ap (λ (x : numbering.Rule). length x.right) same in
        let m : rule.nonterminal ≡ (r.by_symbols).left = a.nonterminal_is ∙ ap (λ (x : numbering.Rule). x.left) same in
        let other : (r.by_symbols).left ≢ n = λ q. a.others start n begun e (ap (λ (x : numbering.Rule). x.left) same ∙ q) in
        let d = path_reduced g start states valid n begun stack xs r.state r.production r.by_symbols path r.top r.complete r.at other in
        made_by stack xs rule r.by_symbols l m d
      where
        made_by : (stack : List ℕ) (xs : List SymbolNumber) (rule : Rule) (x : numbering.Rule) → rule.length ≡ length x.right → rule.nonterminal ≡ x.left → IsReduced states stack xs x → IsMade states t stack xs rule x.right
        made_by stack xs rule x l m d =
            let f = d.fits in
            record {
              fits = omega arith;
              same = ap (λ (k : ℕ). drop (length xs - k) xs) l ∙ d.same;
              to = d.to;
              goto = ap (λ (k : ℕ). goto_from t (last_of (below k stack)) rule.nonterminal) l ∙ ap (λ (o : Option ℕ). goto_from t o rule.nonterminal) d.top ∙ machine_goto g start states valid t known d.state rule.nonterminal ∙ ap (λ (k : ℕ). edge_at states d.state (symbol.Nonterminal k)) m ∙ d.goto;
              path = subst (λ (k : ℕ). IsPath states (below k stack ++ d.to ∷ []) (below k xs ++ symbol.Nonterminal rule.nonterminal ∷ [])) (sym l) (subst (λ (k : ℕ). IsPath states (below (length x.right) stack ++ d.to ∷ []) (below (length x.right) xs ++ symbol.Nonterminal k ∷ [])) (sym m) d.path);
            }

    -- a reduction leaves its triple above those below
    triples_reduced : (c : Config) (rule : Rule) (value : Value) → length (reduced_triples c rule value) ≡ length (below rule.length c.triples) + 1
    triples_reduced c rule value = length_push (below rule.length c.triples) _

    -- a reduction is made
    pub reduces_stand : (c : Config) (rule : Rule) (value : Value) → StandsOn states c.states (length c.triples) → IsReducible g states c.states rule → rule.is_start ≡ false → IsStanding g states (reduces t items c rule value)
    reduces_stand c rule value b r e =
        let d = made c.states b.symbols rule r b.path e in
        subst (λ (o : Option ℕ). IsStanding g states (reduces_to t items c rule value o)) (sym d.goto)
        (ready_stands (record c { states = below rule.length c.states ++ d.to ∷ []; triples = reduced_triples c rule value }) (made_on c rule value b (r.by_symbols).right d))
      where
        made_on : (c : Config) (rule : Rule) (value : Value) (b : StandsOn states c.states (length c.triples)) (right : List SymbolNumber) (d : IsMade states t c.states b.symbols rule right) → StandsOn states (below rule.length c.states ++ d.to ∷ []) (length (reduced_triples c rule value))
        made_on c rule value b right d =
            let k = b.same_count in
            let x = length-take-le (length c.triples - rule.length) c.triples (omega arith) in
            let y = length-take-le (length b.symbols - rule.length) b.symbols (omega arith) in
            let i = triples_reduced c rule value in
            let j = length_push (below rule.length b.symbols) (symbol.Nonterminal rule.nonterminal) in
            record { symbols = below rule.length b.symbols ++ symbol.Nonterminal rule.nonterminal ∷ []; path = d.path; same_count = omega (arith, i, j, x, y, k) }

    -- ---- trials
    -- a look of a trial leads from a path to a path
    verdict_by_stands : (stack : List ℕ) (xs : List SymbolNumber) (terminal : Option ℕ) (act : Act) (next : List ℕ) → IsPath states stack xs → action_on t (last_of stack) terminal ≡ act → verdict_by t stack act ≡ GoesOn next → IsOnPath states next
    verdict_by_stands stack xs terminal NoAction next path e v = cc
    verdict_by_stands stack xs terminal (Shift to) next path e v = cc
    verdict_by_stands stack xs terminal (ReduceBy p) next path e v = by_rule (t.rule p) refl v
      where
        led : (rule : Rule) (o : Option ℕ) (to : ℕ) → o ≡ Some to → pushed t (below rule.length stack) o ≡ GoesOn next → below rule.length stack ++ to ∷ [] ≡ next
        led rule None to f v = absurd (none-some to f)
        led rule (Some i) to f v = ap (λ (k : ℕ). below rule.length stack ++ k ∷ []) (sym (same_Some i to f)) ∙ (let w : GoesOn (below rule.length stack ++ i ∷ []) ≡ GoesOn next = v in cc)

        other : (rule : Rule) → t.rule p ≡ Some rule → (s : Bool) → rule.is_start ≡ s → cond s Yes (reduced_stack t stack rule) ≡ GoesOn next → IsOnPath states next
        other rule m true k v = cc
        other rule m false k v =
            let d = made stack xs rule (reducible_at stack terminal p rule e m) path k in (
              below rule.length xs ++ symbol.Nonterminal rule.nonterminal ∷ [],
              subst (λ (ss : List ℕ). IsPath states ss (below rule.length xs ++ symbol.Nonterminal rule.nonterminal ∷ [])) (led rule (goto_from t (last_of (below rule.length stack)) rule.nonterminal) d.to d.goto v) d.path,
            )

        by_rule : (o : Option Rule) → t.rule p ≡ o → verdict_by_rule t stack o ≡ GoesOn next → IsOnPath states next
        by_rule None m v = cc
        by_rule (Some rule) m v = other rule m rule.is_start refl v

    -- the same of a look with its action
    pub verdict_stands : (stack : List ℕ) (terminal : Option ℕ) (next : List ℕ) → IsOnPath states stack → verdict t stack terminal ≡ GoesOn next → IsOnPath states next
    verdict_stands stack terminal next p v = verdict_by_stands stack p.0 terminal (action_on t (last_of stack) terminal) next p.1 refl v

    -- what a trial of a terminal says
    tried_stands : (c : Config) (listing : Listing) (i : ℕ) (v : Verdict) → StandsOn states c.states (length c.triples) → ((next : List ℕ) → v ≡ GoesOn next → IsOnPath states next) → IsStanding g states (tried t items c listing i v)
    tried_stands c listing i Yes b h = tries_stands c _ (i + 1) b
    tried_stands c listing i No b h = tries_stands c listing (i + 1) b
    tried_stands c listing i (GoesOn stack) b h = record { stands = b; left = h stack refl }

    -- a terminal is tried, or a reduction of such a trial is made
    pub tries_on : (c : Config) (listing : Listing) (i : ℕ) (stack : List ℕ) → StandsOn states c.states (length c.triples) → IsOnPath states stack → IsStanding g states (tried t items c listing i (verdict t stack (Some i)))
    tries_on c listing i stack b p = tried_stands c listing i (verdict t stack (Some i)) b (λ next v. verdict_stands stack (Some i) next p v)

    -- what a trial of the lookahead says
    checked_stands : (c : Config) (place to : ℕ) (v : Verdict) → StandsOn states c.states (length c.triples) → IsMended states c.states place to → ((next : List ℕ) → v ≡ GoesOn next → IsOnPath states next) → IsStanding g states (checked t items c place to v)
    checked_stands c place to Yes b w h = mends_stands c c.mending place to b w
    checked_stands c place to No b w h = looks_below_stands c place b
    checked_stands c place to (GoesOn stack) b w h = record { stands = b; left = (w, h stack refl) }

    -- a reduction of a trial of the lookahead is made
    pub checks_stand : (c : Config) (place to : ℕ) (stack : List ℕ) → StandsOn states c.states (length c.triples) → IsMended states c.states place to → IsOnPath states stack → IsStanding g states (checks t items c place to stack)
    checks_stand c place to stack b w p =
        checked_stands c place to (verdict t stack (lookahead_terminal c.lookahead)) b w (λ next v. verdict_stands stack (lookahead_terminal c.lookahead) next p v)

    -- a prefix whose last state shifts the error terminal, or not
    looks_by_stands : (c : Config) (place : ℕ) (o : Option ℕ) → StandsOn states c.states (length c.triples) → ((to : ℕ) → o ≡ Some to → IsMended states c.states place to) → IsStanding g states (looks_by t items c place o)
    looks_by_stands c place None b h = looks_below_stands c place b
    looks_by_stands c place (Some to) b h =
        let w = h to refl in
        checks_stand c place to (take (place + 1) c.states ++ to ∷ []) b w (mended_path c.states b.symbols place to b.path w)

    -- a prefix of the stack is looked at
    pub looks_at_stands : (c : Config) (places : ℕ) → StandsOn states c.states (length c.triples) → IsStanding g states (looks_at t items c places)
    looks_at_stands c zero b = looks_below_stands c zero b
    looks_at_stands c (suc place) b =
        looks_by_stands c place (shift_of (action_on_error t (slice_get c.states place))) b (λ to e.
        let w = error_shift (slice_get c.states place) (action_on_error t (slice_get c.states place)) to t.error refl e in
        record { state = w.0; at = w.1; terminal = w.2; edge = w.3 })

    -- ---- all moves
    -- what is left is done
    makes_stand : (c : Config) (left : Left) → StandsOn states c.states (length c.triples) → LeftStands g states c.states c.lookahead left → IsStanding g states (makes t items c left)
    makes_stand c Pulls b h = pulls_stand c (slice_get items c.taken) b
    makes_stand c (Shifts to) b h = shifts_stand c to b h
    makes_stand c (Calls rule calls result) b h = makes_call_stands c rule calls result b h
    makes_stand c (Reduces rule value) b h = reduces_stand c rule value b h.0 h.1
    makes_stand c (Tries listing i) b h = tries_on c listing i c.states b (b.symbols, b.path)
    makes_stand c (Simulates listing i stack) b h = tries_on c listing i stack b h
    makes_stand c (Looks places) b h = looks_at_stands c places b
    makes_stand c (Checks place to stack) b h = checks_stand c place to stack b h.0 h.1
    makes_stand c Drops b h = dropping_stands c c.mending b
    makes_stand c (Over result) b h = over_stands g states t items c result b

    -- one move
    pub move_stands : (c : Config) → IsStanding g states c → IsStanding g states (move t items c)
    move_stands c s = makes_stand (with_left c Pulls) c.left s.stands s.left

    -- so many moves
    pub moves_stand : (m : ℕ) (c : Config) → IsStanding g states c → IsStanding g states (moves t items m c)
    moves_stand zero c s = s
    moves_stand (suc m) c s = moves_stand m (move t items c) (move_stands c s)

    -- each configuration that the machine reaches
    pub reached_stands : (m : ℕ) → IsStanding g states (moves t items m (first t items))
    reached_stands m = moves_stand m (first t items) first_stands
