-- Which move of the stack machine (Knuth 1965) is left in a configuration.
use Rattle.std.specs.Prelude.{ℕ, zero, suc, ◌+◌, List, [], ◌∷◌, ◌++◌, length, take, Option, Some, None, Bool, false, is_some, Result, Ok, Err, slice_get, nat_lt, ◌==◌, if◌then◌else◌}
use Rattle.lp_repr.specs.declared.values.Loc.TheVariants.{Default}
use Rattle.lp_repr.specs.declared.values.RunItem.{RunItem}
use Rattle.lp_repr.specs.declared.values.RunItem.TheVariants as item
use Rattle.lp_repr.specs.declared.values.UserError.TheVariants as user
use Rattle.lp_repr.specs.declared.values.ParseError.TheVariants as failure
use Rattle.lp_driver.specs.declared.answers.Expecting.{Expecting}
use Rattle.lp_driver.specs.declared.answers.Expecting.TheVariants.{Trial, Actions}
use Rattle.lp_driver.specs.Values.{Text, Token, Spanned, Value, Failure}
use Rattle.lp_driver.specs.DriverState.{last_of}
use Rattle.lp_machine.specs.declared.lookup.Act.{Act}
use Rattle.lp_machine.specs.declared.lookup.Act.TheVariants.{Shift, ReduceBy, NoAction}
use Rattle.lp_machine.specs.declared.lookup.Rule.{Rule}
use Rattle.lp_machine.specs.declared.calls.Call.{Call}
use Rattle.lp_machine.specs.declared.calls.Acted.{Acted}
use Rattle.lp_machine.specs.declared.config.Lookahead.{Lookahead}
use Rattle.lp_machine.specs.declared.config.Listing.{Listing}
use Rattle.lp_machine.specs.declared.config.Mending.{Mending}
use Rattle.lp_machine.specs.declared.config.Left.{Left}
use Rattle.lp_machine.specs.declared.config.Left.TheVariants.{Pulls, Shifts, Calls, Reduces, Tries, Looks}
use Rattle.lp_machine.specs.declared.config.Config.{Config}
use Rattle.lp_machine.specs.ReductionSpan.{popped, empty_place}
use Rattle.lp_machine.specs.Tables.{Tables}
use Rattle.lp_machine.specs.ExpectedList.{action_on, action_on_error, names_with_action}
use Rattle.lp_machine.specs.StackMachine.{with_left, over, failure_at, lookahead_start, lookahead_token, lookahead_terminal, result_at}

module _ (t : Tables) (items : List RunItem) where
  -- a reduction whose action gave a value: the start's ends the run
  abbrev pub valued : Config → Rule → Value → Config
  valued c rule value = if rule.is_start then over c (result_at c.mending c.lookahead value) else with_left c (Reduces rule value)

  -- a reduction whose calls are made
  abbrev pub called : Config → Rule → Result Value Failure → Config
  called c rule (Ok value) = valued c rule value
  called c rule (Err f) = over c (Err f)

  -- a reduction with these calls to make, which then ends so
  abbrev pub calls_next : Config → Rule → List Call → Result Value Failure → Config
  calls_next c rule calls result = if length calls == 0 then called c rule result else with_left c (Calls rule calls result)

  -- what the action of a reduction does
  abbrev pub acted : Config → Rule → Acted
  acted c rule =
      let args = popped rule.length c.triples in
      let empty = empty_place (lookahead_start c.lookahead) c.triples in
      t.act rule.action args (empty, empty) (length c.calls)

  -- no more reductions of an error: the longest prefix of the stack is looked at
  abbrev pub looks : Config → Config
  looks c = with_left c (Looks (length c.states))

  -- the rule of a production, where its symbols are on the stack
  abbrev pub reducible_by : Config → Option Rule → Option Rule
  reducible_by c None = None
  reducible_by c (Some rule) = if nat_lt (length c.triples) rule.length then None else Some rule

  abbrev pub reducible : Config → ℕ → Option Rule
  reducible c production = reducible_by c (t.rule production)

  -- a reduction, else another configuration
  abbrev pub reduces_or : Config → Config → Option Rule → Config
  reduces_or c otherwise None = otherwise
  reduces_or c otherwise (Some rule) = calls_next c rule (acted c rule).calls (acted c rule).result

  -- the reductions that the error terminal triggers
  abbrev pub mends_by : Config → Act → Config
  mends_by c (ReduceBy p) = reduces_or c (looks c) (reducible c p)
  mends_by c (Shift to) = looks c
  mends_by c NoAction = looks c

  abbrev pub asks_error : Config → Config
  asks_error c = mends_by c (action_on_error t (last_of c.states))

  -- an error with its expected list is to be mended, or ends the run
  abbrev pub completes : Config → Listing → Config
  completes c listing =
      if listing.mends then asks_error (record c { mending = Some (record { error = failure_at c.last listing.token listing.found; dropped = [] }) })
      else over c (Err (failure_at c.last listing.token listing.found))

  -- the next terminal is to be tried, or the list is complete
  abbrev pub tries_next : Config → Listing → ℕ → Config
  tries_next c listing i = if nat_lt i (length t.names) then with_left c (Tries listing i) else completes c listing

  abbrev pub errs_by : Expecting → Config → Option (Spanned Token) → Bool → Config
  errs_by Trial c token mends = tries_next c (record { token = token; mends = mends; found = [] }) 0
  errs_by Actions c token mends = completes c (record { token = token; mends = mends; found = names_with_action t (last_of c.states) 0 t.names })

  -- an error at a token, or at the end
  abbrev pub errs : Config → Option (Spanned Token) → Bool → Config
  errs c token mends = errs_by t.expecting c token mends

  -- the top state has no action
  abbrev pub no_action : Config → Config
  no_action c = errs c (lookahead_token c.lookahead) (is_some t.error)

  abbrev pub does : Config → Act → Config
  does c NoAction = no_action c
  does c (Shift to) = with_left c (Shifts to)
  does c (ReduceBy p) = reduces_or c (no_action c) (reducible c p)

  -- what the top state does on the lookahead or at the end, or on an error that is mended
  abbrev pub asks_in : Option Mending → Config → Config
  asks_in (Some mending) c = asks_error c
  asks_in None c = does c (action_on t (last_of c.states) (lookahead_terminal c.lookahead))

  abbrev pub asks : Config → Config
  asks c = asks_in c.mending c

  -- with no token in hand the next item is to be taken
  abbrev pub ready_from : Config → Option Lookahead → Config
  ready_from c None = if nat_lt c.taken (length items) then with_left c Pulls else asks c
  ready_from c (Some l) = asks c

  abbrev pub ready : Config → Config
  ready c = ready_from c c.lookahead

  -- before any move
  abbrev pub first : Config
  first = ready (record { states = 0 ∷ []; triples = []; lookahead = None; mending = None; taken = 0; last = Default; calls = []; left = Pulls })
