-- What a driver keeps between turns, and where a turn leads.
use Rattle.std.specs.Prelude.{ℕ, zero, suc, ◌-◌, ℤ, pos, negsuc, List, length, Option, Some, None, slice_get}
use Rattle.lp_repr.specs.declared.values.Loc.{Loc}
use Rattle.lp_repr.specs.declared.values.RunItem.{RunItem}
use Rattle.lp_driver.specs.Values.{Token, Spanned, Failure, Ending}
use Rattle.lp_driver.specs.Questions.{Said, Says, Halts, Halt, Stuck}

-- the token in hand, and its number
pub record Lookahead : Type 0 where
  pub token : Spanned Token
  pub index : ℕ

-- an error that is to be mended: nothing is in hand at the end of the items
pub record Recovering : Type 0 where
  pub error : Failure
  pub dropped : List (Spanned Token)
  pub lookahead : Option Lookahead

-- what the driver is at
pub data Mode : Type 0 where
  Parsing : (lookahead : Option Lookahead) → Mode
  -- makes the reductions that an error triggers
  Reducing : (r : Recovering) → Mode
  -- tries the places of the stack below this one
  Trying : (r : Recovering) (places : ℕ) → Mode
  -- tries the lookahead on this stack, at this place
  Simulating : (r : Recovering) (place : ℕ) (stack : List ℤ) → Mode

-- what a driver keeps: begin is where a parse begins, and last the end of the last token
pub record Driver (S : Type 0) : Type 0 where
  pub states : List ℤ
  pub symbols : List (Spanned S)
  pub items : List RunItem
  pub mode : Mode
  pub begin : Loc
  pub last : Loc

-- where a turn leads: on, or to the end of the run
pub data Next (S D : Type 0) : Type 0 where
  Goes_on : (driver : Driver S) (d : D) → Next S D
  Ends : (ending : Ending) (d : D) → Next S D
  Halted : (why : Halt) (d : D) → Next S D

-- goes on with the answer
abbrev pub on_answer : {A S D : Type 0} → Said A D → (A → D → Next S D) → Next S D
on_answer (Says x d) go = go x d
on_answer (Halts why d) go = Halted why d

-- goes on with a state, where it is there
abbrev pub with_state : {S D : Type 0} → Option ℤ → D → (ℤ → Next S D) → Next S D
with_state None d go = Halted Stuck d
with_state (Some s) d go = go s

abbrev pub last_of : {A : Type 0} → List A → Option A
last_of xs = slice_get xs (length xs - 1)

abbrev pub top : {S : Type 0} → Driver S → Option ℤ
top w = last_of w.states

abbrev pub with_mode : {S : Type 0} → Driver S → Mode → Driver S
with_mode w mode = record { states = w.states; symbols = w.symbols; items = w.items; mode = mode; begin = w.begin; last = w.last }

abbrev pub recovering_with : Recovering → Lookahead → Recovering
recovering_with r l = record { error = r.error; dropped = r.dropped; lookahead = Some l }

-- the same with this token in hand
abbrev pub holding : Mode → Lookahead → Mode
holding (Parsing l) next = Parsing (Some next)
holding (Reducing r) next = Reducing (recovering_with r next)
holding (Trying r places) next = Trying (recovering_with r next) places
holding (Simulating r place stack) next = Simulating (recovering_with r next) place stack

abbrev pub lookahead_start : Option Lookahead → Option Loc
lookahead_start None = None
lookahead_start (Some l) = Some l.token.0

-- the state that an action shifts to
abbrev pub shift_of : ℤ → Option ℤ
shift_of (pos zero) = None
shift_of (pos (suc to)) = Some (pos to)
shift_of (negsuc p) = None

-- the production that an action reduces by
abbrev pub production_of : ℤ → Option ℤ
production_of (pos n) = None
production_of (negsuc p) = Some (pos p)
