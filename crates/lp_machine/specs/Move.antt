-- What each move of the stack machine does.
use Rattle.std.specs.Prelude.{ℕ, zero, suc, ◌+◌, List, [], ◌∷◌, ◌++◌, length, take, Option, Some, None, Bool, true, false, Result, Ok, Err, slice_get}
use Rattle.lp_repr.specs.declared.values.Loc.{Loc}
use Rattle.lp_repr.specs.declared.values.Loc.TheVariants.{Default}
use Rattle.lp_repr.specs.declared.values.RunItem.{RunItem}
use Rattle.lp_repr.specs.declared.values.RunItem.TheVariants as item
use Rattle.lp_repr.specs.declared.values.UserError.TheVariants as user
use Rattle.lp_repr.specs.declared.values.ParseError.TheVariants as failure
use Rattle.lp_driver.specs.Values.{Text, Token, Spanned, Value, Failure}
use Rattle.lp_driver.specs.DriverState.{last_of}
use Rattle.lp_machine.specs.declared.lookup.Rule.{Rule}
use Rattle.lp_machine.specs.declared.calls.Call.{Call}
use Rattle.lp_machine.specs.declared.config.Lookahead.{Lookahead}
use Rattle.lp_machine.specs.declared.config.Listing.{Listing}
use Rattle.lp_machine.specs.declared.config.Mending.{Mending}
use Rattle.lp_machine.specs.declared.config.Left.{Left}
use Rattle.lp_machine.specs.declared.config.Left.TheVariants.{Pulls, Shifts, Calls, Reduces, Tries, Simulates, Looks, Checks, Drops, Over}
use Rattle.lp_machine.specs.declared.config.Config.{Config}
use Rattle.lp_machine.specs.declared.verdict.Verdict.{Verdict}
use Rattle.lp_machine.specs.declared.verdict.Verdict.TheVariants.{Yes, No, GoesOn}
use Rattle.lp_machine.specs.ReductionSpan.{below}
use Rattle.lp_machine.specs.Tables.{Tables}
use Rattle.lp_machine.specs.ExpectedList.{verdict, goto_from, action_on_error}
use Rattle.lp_machine.specs.Recovery.{shift_of, mended_at, dropped_with}
use Rattle.lp_machine.specs.StackMachine.{with_left, over, lookahead_start, lookahead_terminal, with_name, reduced_triples}
use Rattle.lp_machine.specs.Moves.{calls_next, looks, errs, no_action, asks, ready, tries_next}

-- a location of an item
abbrev pub located : Bool → Loc → Loc
located true at = at
located false at = Default

module _ (t : Tables) (items : List RunItem) where
  -- a token of an item, with its span
  abbrev pub token_in : Loc → Token → Loc → Spanned Token
  token_in a token b = (located t.is_located a, token, located t.is_located b)

  -- a token that matches no terminal is an error at once; else it is in hand
  abbrev pub takes : Config → Spanned Token → Option ℕ → Config
  takes c token None = errs t items c (Some token) false
  takes c token (Some i) = asks t items (record c { lookahead = Some (record { token = token; index = i }) })

  -- an item is taken: a fault ends the run
  abbrev pub pulls : Config → Option RunItem → Config
  pulls c None = asks t items c
  pulls c (Some (item.Fault name)) = over (record c { taken = c.taken + 1 }) (Err (failure.User (user.Fault name)))
  pulls c (Some (item.Token a token b)) =
      takes (record c { taken = c.taken + 1; last = located t.is_located b }) (token_in a token b) (t.terminal token)

  -- the value of the lookahead, with its span
  abbrev pub shifted_triples : Config → Option Lookahead → List (Spanned Value)
  shifted_triples c None = c.triples
  shifted_triples c (Some l) = c.triples ++ (l.token.0, t.value l.index l.token.1, l.token.2) ∷ []

  abbrev pub shifts : Config → ℕ → Config
  shifts c to = ready t items (record c { states = c.states ++ to ∷ []; triples = shifted_triples c c.lookahead; lookahead = None })

  abbrev pub makes_call : Config → Rule → List Call → Result Value Failure → Config
  makes_call c rule [] result = calls_next t items c rule [] result
  makes_call c rule (call ∷ calls) result = calls_next t items (record c { calls = c.calls ++ call ∷ [] }) rule calls result

  -- a reduction without a goto is no action
  abbrev pub reduces_to : Config → Rule → Value → Option ℕ → Config
  reduces_to c rule value None = no_action t items c
  reduces_to c rule value (Some to) =
      ready t items (record c { states = below rule.length c.states ++ to ∷ []; triples = reduced_triples c rule value })

  abbrev pub reduces : Config → Rule → Value → Config
  reduces c rule value = reduces_to c rule value (goto_from t (last_of (below rule.length c.states)) rule.nonterminal)

  -- what a trial of a terminal says
  abbrev pub tried : Config → Listing → ℕ → Verdict → Config
  tried c listing i Yes = tries_next t items c (with_name listing (slice_get t.names i)) (i + 1)
  tried c listing i No = tries_next t items c listing (i + 1)
  tried c listing i (GoesOn stack) = with_left c (Simulates listing i stack)

  -- no prefix serves: the lookahead is dropped, or at the end of the items the first error stands
  abbrev pub drops_or : Config → Option Mending → Option Lookahead → Config
  drops_or c mending (Some l) = with_left c Drops
  drops_or c (Some mending) None = over c (Err mending.error)
  drops_or c None None = asks t items c

  -- the next prefix, which has one state less than this place
  abbrev pub looks_below : Config → ℕ → Config
  looks_below c zero = drops_or c c.mending c.lookahead
  looks_below c (suc place) = with_left c (Looks (suc place))

  -- this place serves: the stacks are cut there, and the error symbol is pushed
  abbrev pub mends : Config → Option Mending → ℕ → ℕ → Config
  mends c None place to = asks t items c
  mends c (Some mending) place to = ready t items (record c {
    states = take (place + 1) c.states ++ to ∷ [];
    triples = mended_at c.triples place mending (lookahead_start c.lookahead);
    mending = None;
  })

  -- what a trial of the lookahead on a prefix says, which shifted the error to a state
  abbrev pub checked : Config → ℕ → ℕ → Verdict → Config
  checked c place to Yes = mends c c.mending place to
  checked c place to No = looks_below c place
  checked c place to (GoesOn stack) = with_left c (Checks place to stack)

  abbrev pub checks : Config → ℕ → ℕ → List ℕ → Config
  checks c place to stack = checked c place to (verdict t stack (lookahead_terminal c.lookahead))

  abbrev pub looks_by : Config → ℕ → Option ℕ → Config
  looks_by c place None = looks_below c place
  looks_by c place (Some to) = checks c place to (take (place + 1) c.states ++ to ∷ [])

  -- the prefix of this many states is looked at
  abbrev pub looks_at : Config → ℕ → Config
  looks_at c zero = looks_below c zero
  looks_at c (suc place) = looks_by c place (shift_of (action_on_error t (slice_get c.states place)))

  -- a token is dropped, and the next one is taken
  abbrev pub taken_after : Config → Spanned Token → Option ℕ → Config
  taken_after c token None = errs t items c (Some token) false
  taken_after c token (Some i) = looks t items (record c { lookahead = Some (record { token = token; index = i }) })

  abbrev pub drops : Config → Option RunItem → Config
  drops c None = looks t items c
  drops c (Some (item.Fault name)) = over (record c { taken = c.taken + 1 }) (Err (failure.User (user.Fault name)))
  drops c (Some (item.Token a token b)) =
      taken_after (record c { taken = c.taken + 1; last = located t.is_located b }) (token_in a token b) (t.terminal token)

  abbrev pub dropping : Config → Option Mending → Config
  dropping c None = asks t items c
  dropping c (Some mending) = drops (record c { mending = Some (dropped_with mending c.lookahead); lookahead = None }) (slice_get items c.taken)

  -- makes the move that is left
  abbrev pub makes : Config → Left → Config
  makes c Pulls = pulls c (slice_get items c.taken)
  makes c (Shifts to) = shifts c to
  makes c (Calls rule calls result) = makes_call c rule calls result
  makes c (Reduces rule value) = reduces c rule value
  makes c (Tries listing i) = tried c listing i (verdict t c.states (Some i))
  makes c (Simulates listing i stack) = tried c listing i (verdict t stack (Some i))
  makes c (Looks places) = looks_at c places
  makes c (Checks place to stack) = checks c place to stack
  makes c Drops = dropping c c.mending
  makes c (Over result) = over c result

  -- one move, after which it is no longer left
  abbrev pub move : Config → Config
  move c = makes (with_left c Pulls) c.left

  -- at most this many moves
  abbrev pub moves : ℕ → Config → Config
  moves zero c = c
  moves (suc m) c = moves m (move c)
