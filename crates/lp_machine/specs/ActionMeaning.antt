-- What an action means on triples: the calls of user code that it makes, and what it gives.
use Rattle.std.specs.Prelude.{ℕ, zero, suc, ◌+◌, ◌-◌, ◌==◌, List, [], ◌∷◌, ◌++◌, length, take, drop, Option, Some, None, Bool, Result, Ok, Err, ◌&&◌, slice_get, if◌then◌else◌}
use Rattle.std.specs.List.{list_any}
use Rattle.lp_repr.specs.NormalCode.{norm_of}
use Rattle.lp_repr.specs.declared.values.Loc.{Loc}
use Rattle.lp_repr.specs.declared.values.ParseError.TheVariants.{User}
use Rattle.lp_repr.specs.declared.values.UserError.TheVariants as blame
use Rattle.lp_repr.specs.declared.repr.ActionFnDefn.{ActionFnDefn}
use Rattle.lp_repr.specs.declared.repr.ActionFnDefnKind.{ActionFnDefnKind}
use Rattle.lp_repr.specs.declared.repr.ActionFnDefnKind.TheVariants as kind
use Rattle.lp_repr.specs.declared.repr.LookaroundActionFn.TheVariants.{Lookahead, Lookbehind}
use Rattle.lp_repr.specs.declared.repr.InlinedSymbol.{InlinedSymbol}
use Rattle.lp_repr.specs.declared.repr.InlinedSymbol.TheVariants.{Original, Inlined}
use Rattle.lp_machine.specs.declared.calls.Call.{Call}
use Rattle.lp_machine.specs.declared.calls.Acted.{Acted}
use Rattle.lp_driver.specs.Values.{Text, Spanned, Value, Call_result, Location, Failure}
use Rattle.lp_driver.specs.DriverState.{last_of}
use Rattle.lp_driver.specs.RecoveryTurns.{start_or, end_or}

-- what the action of a number does to these triples at a place, after so many calls
abbrev pub Meaning : Type 0
Meaning = ℕ → List (Spanned Value) → Loc × Loc → ℕ → Acted

-- where a call without arguments stands
abbrev pub place_of : List (Spanned Value) → Loc × Loc → Option (Loc × Loc)
place_of args place = if length args == 0 then Some place else None

-- these calls first
abbrev pub after_calls : List Call → Acted → Acted
after_calls calls acted = record { calls = calls ++ acted.calls; result = acted.result }

-- where the k flat arguments of an inlined symbol stand, from number i on; without any, between
-- their neighbours
abbrev pub inlined_start : List (Spanned Value) → ℕ → ℕ → Loc → Loc
inlined_start args i k otherwise =
    if k == 0 then (if i == 0 then start_or (slice_get args 0) otherwise else (end_or (slice_get args (i - 1)) otherwise))
    else start_or (slice_get args i) otherwise

abbrev pub inlined_end : List (Spanned Value) → ℕ → ℕ → Loc → Loc
inlined_end args i k otherwise =
    if k == 0 then start_or (slice_get args i) (end_or (last_of args) otherwise) else end_or (slice_get args (i + k - 1)) otherwise

abbrev pub inlined_span : List (Spanned Value) → ℕ → ℕ → Loc × Loc → Loc × Loc
inlined_span args i k place = (inlined_start args i k place.0, inlined_end args i k place.1)

-- goes on with a value, after these calls; an error ends the whole
abbrev pub with_value : Acted → Result Value Failure → (Value → Acted) → Acted
with_value acted (Ok value) go = after_calls acted.calls (go value)
with_value acted (Err failure) go = record { calls = acted.calls; result = Err failure }

-- The inlined actions run in order, each on its share of the flat arguments, of which i are used.
-- At last the outer action runs on the original triples and on what the inlined ones gave.
abbrev pub inline_from : Meaning → ℕ → List (Spanned Value) → Loc × Loc → ℕ → List (Spanned Value) → ℕ → List InlinedSymbol → Acted
inline_from acts outer args place i given n [] = acts outer given place n
inline_from acts outer args place i given n (Original symbol ∷ symbols) =
    inline_from acts outer args place (i + 1) (given ++ take 1 (drop i args)) n symbols
inline_from acts outer args place i given n (Inlined action inner ∷ symbols) =
    let at = inlined_span args i (length inner) place in
    let acted = acts action (take (length inner) (drop i args)) at n in
    with_value acted acted.result (λ value.
    inline_from acts outer args place (i + length inner) (given ++ (at.0, value, at.1) ∷ []) (n + length acted.calls) symbols)

-- the result of a call, or its error where it is fallible and is to fail
abbrev pub call_result : List ℕ → Bool → ℕ → Result Value Failure
call_result failing fallible n = if fallible && list_any (λ k. k == n) failing then Err (User (blame.Call n)) else Ok (Call_result n)

abbrev pub gives : Value → Acted
gives value = record { calls = []; result = Ok value }

module _ (params : List Text) (failing : List ℕ) where
  abbrev pub user_call : Bool → Text → List (Spanned Value) → Loc × Loc → ℕ → Acted
  user_call fallible code args place n = record {
    calls = record { number = n; code = norm_of code; params = params; args = args; place = place_of args place } ∷ [];
    result = call_result failing fallible n;
  }

  abbrev pub meaning_of : Meaning → Bool → ActionFnDefnKind → List (Spanned Value) → Loc × Loc → ℕ → Acted
  meaning_of acts fallible (kind.User names types code) args place n = user_call fallible code args place n
  meaning_of acts fallible (kind.Lookaround Lookahead) args place n = gives (Location place.1)
  meaning_of acts fallible (kind.Lookaround Lookbehind) args place n = gives (Location place.0)
  meaning_of acts fallible (kind.Inline outer symbols) args place n = inline_from acts outer args place 0 [] n symbols

  -- an action that isn't there gives the place's first location
  abbrev pub meaning_at : Meaning → Option ActionFnDefn → List (Spanned Value) → Loc × Loc → ℕ → Acted
  meaning_at acts (Some action) args place n = meaning_of acts action.fallible action.kind args place n
  meaning_at acts None args place n = gives (Location place.0)

  -- the meaning of an action whose inlined actions nest less than this deep
  abbrev pub act : ℕ → List ActionFnDefn → Meaning
  act zero actions a args place n = gives (Location place.0)
  act (suc depth) actions a args place n = meaning_at (act depth actions) (slice_get actions a) args place n
