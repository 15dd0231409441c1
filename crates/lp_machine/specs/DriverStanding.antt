-- Where the machine stands when a driver over a definition by tables is between two turns.
use Rattle.std.specs.Prelude.{◌≡◌, ℕ, zero, suc, List, [], map, length, drop, Option, Some, None, slice_get}
use Rattle.lp_repr.specs.declared.values.Loc.TheVariants.{Default}
use Rattle.lp_repr.specs.declared.values.RunItem.{RunItem}
use Rattle.lp_driver.specs.Values.{Value, Ending}
use Rattle.lp_driver.specs.DriverState as driver
use Rattle.lp_driver.specs.DriverState.{Recovering, Driver, Mode, Parsing, Reducing, Trying, Simulating, Next, Goes_on, Ends, Halted}
use Rattle.lp_driver.specs.Turns.{run}
use Rattle.lp_machine.specs.declared.calls.Call.{Call}
use Rattle.lp_machine.specs.declared.config.Lookahead.{Lookahead}
use Rattle.lp_machine.specs.declared.config.Mending.{Mending}
use Rattle.lp_machine.specs.declared.config.Left.TheVariants.{Pulls}
use Rattle.lp_machine.specs.declared.config.Config.{Config}
use Rattle.lp_machine.specs.declared.by_tables.TableDefinition.{TableDefinition}
use Rattle.lp_machine.specs.Tables.{Tables}
use Rattle.lp_machine.specs.Moves.{ready, asks_error, first}
use Rattle.lp_machine.specs.Move.{looks_below, checks, moves}
use Rattle.lp_machine.specs.RunEnds.{ended}
use Rattle.lp_machine.specs.RecoveryLaw.{error_shift}
use Rattle.lp_machine.specs.TableAnswers.{number_of, tables_in, table_answers}

-- the token in hand, and an error that is mended, as the machine has them
abbrev pub in_hand : Option driver.Lookahead → Option Lookahead
in_hand None = None
in_hand (Some l) = Some (record { token = l.token; index = l.index })

abbrev pub mending_of : Recovering → Mending
mending_of r = record { error = r.error; dropped = r.dropped }

-- the stacks and the end of the last token, after so many items and these calls
abbrev pub stacks_of : Driver Value → List Call → ℕ → Option driver.Lookahead → Option Mending → Config
stacks_of w calls taken l mending = record {
  states = map number_of w.states;
  triples = w.symbols;
  lookahead = in_hand l;
  mending = mending;
  taken = taken;
  last = w.last;
  calls = calls;
  left = Pulls;
}

module _ (t : Tables) (items : List RunItem) where
  -- a trial of the lookahead on a stack, where the state at a place shifts the error
  abbrev pub tries : Config → ℕ → List ℕ → Option ℕ → Config
  tries c place stack None = looks_below t items c place
  tries c place stack (Some to) = checks t items c place to stack

  abbrev pub stands_in : Driver Value → List Call → ℕ → Mode → Config
  stands_in w calls taken (Parsing l) = ready t items (stacks_of w calls taken l None)
  stands_in w calls taken (Reducing r) = asks_error t items (stacks_of w calls taken r.lookahead (Some (mending_of r)))
  stands_in w calls taken (Trying r places) = looks_below t items (stacks_of w calls taken r.lookahead (Some (mending_of r))) places
  stands_in w calls taken (Simulating r place stack) =
      let c = stacks_of w calls taken r.lookahead (Some (mending_of r)) in
      tries c place (map number_of stack) (error_shift t c place)

  abbrev pub stands : Driver Value → List Call → ℕ → Config
  stands w calls taken = stands_in w calls taken w.mode

  -- where a driver is after turns, there the machine comes by moves: it stands at the same place, or
  -- it ended so with the same calls. A driver may also halt for want of steps, or over tables that no
  -- state, no goto or no production fits: then the machine comes to the same calls.
  abbrev pub ComesTo : Next Value TableDefinition → Type 0
  ComesTo (Goes_on w d) = (m : ℕ) × ((taken : ℕ) × (moves t items m (first t items) ≡ stands w d.calls taken))
  ComesTo (Ends e d) = (m : ℕ) × (ended (moves t items m (first t items)).left ≡ Some e) × ((moves t items m (first t items)).calls ≡ d.calls)
  ComesTo (Halted why d) = (m : ℕ) × ((moves t items m (first t items)).calls ≡ d.calls)

-- the turns of a driver over a definition by tables make the machine's moves
abbrev pub TurnsMove : Type 0
TurnsMove = (items : List RunItem) (d : TableDefinition) (n : ℕ) → d.calls ≡ [] → ComesTo (tables_in d) items (run table_answers n items d)
