-- What is left to do in a configuration makes no call by itself.
use Rattle.std.proofs.Common.{◌≡◌, ℕ, zero, suc, ◌+◌, List, [], ◌∷◌, ◌++◌, length, take, Option, Some, None, Bool, true, false, Result, Ok, Err, refl}
use Rattle.std.specs.Prelude.{nat_lt, ◌==◌, if◌then◌else◌, is_some}
use Rattle.lp_repr.specs.declared.values.RunItem.{RunItem}
use Rattle.lp_driver.specs.declared.answers.Expecting.{Expecting}
use Rattle.lp_driver.specs.declared.answers.Expecting.TheVariants.{Trial, Actions}
use Rattle.lp_driver.specs.Values.{Token, Spanned, Value, Failure}
use Rattle.lp_driver.specs.DriverState.{last_of}
use Rattle.lp_machine.specs.declared.lookup.Act.{Act}
use Rattle.lp_machine.specs.declared.lookup.Act.TheVariants.{Shift, ReduceBy, NoAction}
use Rattle.lp_machine.specs.declared.lookup.Rule.{Rule}
use Rattle.lp_machine.specs.declared.calls.Call.{Call}
use Rattle.lp_machine.specs.declared.config.Lookahead.{Lookahead}
use Rattle.lp_machine.specs.declared.config.Listing.{Listing}
use Rattle.lp_machine.specs.declared.config.Mending.{Mending}
use Rattle.lp_machine.specs.declared.config.Config.{Config}
use Rattle.lp_machine.specs.declared.verdict.Verdict.{Verdict}
use Rattle.lp_machine.specs.declared.verdict.Verdict.TheVariants.{Yes, No, GoesOn}
use Rattle.lp_machine.specs.Tables.{Tables}
use Rattle.lp_machine.specs.ExpectedList.{action_on, action_on_error, names_with_action, verdict}
use Rattle.lp_machine.specs.Recovery.{mended_at}
use Rattle.lp_machine.specs.StackMachine.{failure_at, lookahead_start, lookahead_token, lookahead_terminal}
use Rattle.lp_machine.specs.Moves.{called, calls_next, acted, looks, reducible, reduces_or, mends_by, asks_error, completes, tries_next, errs_by, errs, no_action, does, asks_in, asks, ready_from, ready}
use Rattle.lp_machine.specs.Move.{takes, drops_or, looks_below, mends, checked, looks_by, taken_after}

-- so many calls, whichever it is
either_keeps : (b : Bool) (x y : Config) (calls : List Call) → x.calls ≡ calls → y.calls ≡ calls → (if b then x else y).calls ≡ calls
either_keeps true x y calls h k = h
either_keeps false x y calls h k = k

module _ (t : Tables) (items : List RunItem) where
  called_keeps : (c : Config) (rule : Rule) (r : Result Value Failure) → (called t items c rule r).calls ≡ c.calls
  called_keeps c rule (Ok value) = either_keeps rule.is_start _ _ c.calls refl refl
  called_keeps c rule (Err f) = refl

  next_keeps : (c : Config) (rule : Rule) (calls : List Call) (r : Result Value Failure) → (calls_next t items c rule calls r).calls ≡ c.calls
  next_keeps c rule calls r = either_keeps (length calls == 0) _ _ c.calls (called_keeps c rule r) refl

  reduces_keeps : (c otherwise : Config) (o : Option Rule) → otherwise.calls ≡ c.calls → (reduces_or t items c otherwise o).calls ≡ c.calls
  reduces_keeps c otherwise None h = h
  reduces_keeps c otherwise (Some rule) h = next_keeps c rule (acted t items c rule).calls (acted t items c rule).result

  pub mends_by_keeps : (c : Config) (act : Act) → (mends_by t items c act).calls ≡ c.calls
  mends_by_keeps c NoAction = refl
  mends_by_keeps c (Shift to) = refl
  mends_by_keeps c (ReduceBy p) = reduces_keeps c (looks t items c) (reducible t items c p) refl

  pub error_keeps : (c : Config) → (asks_error t items c).calls ≡ c.calls
  error_keeps c = mends_by_keeps c (action_on_error t (last_of c.states))

  completes_keeps : (c : Config) (listing : Listing) → (completes t items c listing).calls ≡ c.calls
  completes_keeps c listing =
      either_keeps listing.mends _ _ c.calls (error_keeps (record c { mending = Some (record { error = failure_at c.last listing.token listing.found; dropped = [] }) })) refl

  tries_keeps : (c : Config) (listing : Listing) (i : ℕ) → (tries_next t items c listing i).calls ≡ c.calls
  tries_keeps c listing i = either_keeps (nat_lt i (length t.names)) _ _ c.calls refl (completes_keeps c listing)

  pub errs_by_keeps : (e : Expecting) (c : Config) (token : Option (Spanned Token)) (mends : Bool) → (errs_by t items e c token mends).calls ≡ c.calls
  errs_by_keeps Trial c token mends = tries_keeps c (record { token = token; mends = mends; found = [] }) 0
  errs_by_keeps Actions c token mends =
      completes_keeps c (record { token = token; mends = mends; found = names_with_action t (last_of c.states) 0 t.names })

  pub errs_keeps : (c : Config) (token : Option (Spanned Token)) (mends : Bool) → (errs t items c token mends).calls ≡ c.calls
  errs_keeps c token mends = errs_by_keeps t.expecting c token mends

  pub no_action_keeps : (c : Config) → (no_action t items c).calls ≡ c.calls
  no_action_keeps c = errs_keeps c (lookahead_token c.lookahead) (is_some t.error)

  pub does_keeps : (c : Config) (act : Act) → (does t items c act).calls ≡ c.calls
  does_keeps c NoAction = no_action_keeps c
  does_keeps c (Shift to) = refl
  does_keeps c (ReduceBy p) = reduces_keeps c (no_action t items c) (reducible t items c p) (no_action_keeps c)

  asks_in_keeps : (m : Option Mending) (c : Config) → (asks_in t items m c).calls ≡ c.calls
  asks_in_keeps (Some m) c = error_keeps c
  asks_in_keeps None c = does_keeps c (action_on t (last_of c.states) (lookahead_terminal c.lookahead))

  pub asks_keeps : (c : Config) → (asks t items c).calls ≡ c.calls
  asks_keeps c = asks_in_keeps c.mending c

  ready_from_keeps : (c : Config) (l : Option Lookahead) → (ready_from t items c l).calls ≡ c.calls
  ready_from_keeps c None = either_keeps (nat_lt c.taken (length items)) _ _ c.calls refl (asks_keeps c)
  ready_from_keeps c (Some l) = asks_keeps c

  pub ready_keeps : (c : Config) → (ready t items c).calls ≡ c.calls
  ready_keeps c = ready_from_keeps c c.lookahead

  -- an item is taken
  pub takes_keeps : (c : Config) (token : Spanned Token) (o : Option ℕ) → (takes t items c token o).calls ≡ c.calls
  takes_keeps c token None = errs_keeps c (Some token) false
  takes_keeps c token (Some i) = asks_keeps (record c { lookahead = Some (record { token = token; index = i }) })

  pub taken_keeps : (c : Config) (token : Spanned Token) (o : Option ℕ) → (taken_after t items c token o).calls ≡ c.calls
  taken_keeps c token None = errs_keeps c (Some token) false
  taken_keeps c token (Some i) = refl

  -- a prefix is looked at
  drops_keeps : (c : Config) (m : Option Mending) (l : Option Lookahead) → (drops_or t items c m l).calls ≡ c.calls
  drops_keeps c m (Some l) = refl
  drops_keeps c (Some m) None = refl
  drops_keeps c None None = asks_keeps c

  below_keeps : (c : Config) (place : ℕ) → (looks_below t items c place).calls ≡ c.calls
  below_keeps c zero = drops_keeps c c.mending c.lookahead
  below_keeps c (suc place) = refl

  pub mends_keeps : (c : Config) (m : Option Mending) (place to : ℕ) → (mends t items c m place to).calls ≡ c.calls
  mends_keeps c None place to = asks_keeps c
  mends_keeps c (Some m) place to =
      ready_keeps (record c { states = take (place + 1) c.states ++ to ∷ []; triples = mended_at c.triples place m (lookahead_start c.lookahead); mending = None })

  checked_keeps : (c : Config) (place to : ℕ) (v : Verdict) → (checked t items c place to v).calls ≡ c.calls
  checked_keeps c place to Yes = mends_keeps c c.mending place to
  checked_keeps c place to No = below_keeps c place
  checked_keeps c place to (GoesOn stack) = refl

  pub looks_by_keeps : (c : Config) (place : ℕ) (o : Option ℕ) → (looks_by t items c place o).calls ≡ c.calls
  looks_by_keeps c place None = below_keeps c place
  looks_by_keeps c place (Some to) = checked_keeps c place to (verdict t (take (place + 1) c.states ++ to ∷ []) (lookahead_terminal c.lookahead))

  -- a prefix with its error shifted, after what its trial says
  abbrev pub says : Config → ℕ → Option ℕ → Verdict → Config
  says c place None v = looks_below t items c place
  says c place (Some to) v = checked t items c place to v

  pub says_keeps : (c : Config) (place : ℕ) (o : Option ℕ) (v : Verdict) → (says c place o v).calls ≡ c.calls
  says_keeps c place None v = below_keeps c place
  says_keeps c place (Some to) v = checked_keeps c place to v
