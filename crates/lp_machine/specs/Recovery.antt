-- Error recovery: the moves of a machine that mends an error. Fewer dropped tokens are tried first,
-- and for each number longer prefixes of the stack first (panic mode, as LALRPOP documents it).
use Rattle.std.specs.Prelude.{ℕ, zero, suc, ◌+◌, ◌-◌, List, [], ◌∷◌, ◌++◌, length, take, drop, Option, Some, None, slice_get}
use Rattle.lp_repr.specs.declared.values.Loc.{Loc}
use Rattle.lp_repr.specs.declared.values.Loc.TheVariants.{Default}
use Rattle.lp_driver.specs.Values.{Token, Spanned, Value, Recovered}
use Rattle.lp_driver.specs.DriverState.{last_of}
use Rattle.lp_driver.specs.RecoveryTurns.{start_or, end_or, loc_or}
use Rattle.lp_machine.specs.declared.lookup.Act.{Act}
use Rattle.lp_machine.specs.declared.lookup.Act.TheVariants.{Shift, ReduceBy, NoAction}
use Rattle.lp_machine.specs.declared.config.Mending.{Mending}
use Rattle.lp_machine.specs.declared.config.Lookahead.{Lookahead}

-- the state that an act shifts to
abbrev pub shift_of : Act → Option ℕ
shift_of (Shift to) = Some to
shift_of (ReduceBy p) = None
shift_of NoAction = None

-- where the error symbol starts: at the first popped symbol, else the first dropped token, else
-- after the new top, else nowhere
abbrev pub error_start : List (Spanned Value) → List (Spanned Token) → List (Spanned Value) → Loc
error_start popped dropped under =
    start_or (slice_get popped 0) (start_or (slice_get dropped 0) (end_or (last_of under) Default))

-- where it ends: with the last dropped token, else the last popped symbol, else before the
-- lookahead, else where it starts
abbrev pub error_end : List (Spanned Value) → List (Spanned Token) → Option Loc → Loc → Loc
error_end popped dropped ahead start = end_or (last_of dropped) (end_or (last_of popped) (loc_or ahead start))

-- the stack of triples with the error symbol, of which n stay
abbrev pub mended_at : List (Spanned Value) → ℕ → Mending → Option Loc → List (Spanned Value)
mended_at triples n mending ahead =
    let start = error_start (drop n triples) mending.dropped (take n triples) in
    take n triples ++ (start, Recovered (record { error = mending.error; dropped = mending.dropped }), error_end (drop n triples) mending.dropped ahead start) ∷ []

-- one token more is dropped
abbrev pub dropped_with : Mending → Option Lookahead → Mending
dropped_with mending None = mending
dropped_with mending (Some l) = record mending { dropped = mending.dropped ++ l.token ∷ [] }
