-- Where a driver stands with the machine, and where its turns lead.
use Rattle.std.specs.Prelude.{◌≡◌, ℕ, zero, suc, ◌+◌, ◌*◌, ◌<◌, ◌≤◌, pos, List, [], map, length, drop, Option, Some, None, slice_get}
use Rattle.lp_repr.specs.declared.lr1.Lr1State.{Lr1State}
use Rattle.lp_repr.specs.declared.numbering.SymbolNumber.{SymbolNumber}
use Rattle.lp_repr.specs.declared.values.Loc.{Loc}
use Rattle.lp_repr.specs.declared.values.Loc.TheVariants.{Default}
use Rattle.lp_repr.specs.declared.values.RunItem.{RunItem}
use Rattle.lp_repr.specs.declared.values.RunItem.TheVariants as item
use Rattle.lp_driver.specs.DriverState.{Lookahead, Recovering, Driver, Mode, Parsing, Reducing, Trying, Simulating, Next, Goes_on, Ends, Halted}
use Rattle.lp_driver.specs.Questions.{Spent}
use Rattle.lp_driver.specs.Values.{Token, Spanned, Value, Ending}
use Rattle.lp_machine.specs.declared.calls.Call.{Call}
use Rattle.lp_machine.specs.declared.config.Config.{Config}
use Rattle.lp_machine.specs.declared.config.Left.TheVariants.{Pulls}
use Rattle.lp_machine.specs.declared.config.Mending.{Mending}
use Rattle.lp_machine.specs.declared.lookup.Act.TheVariants.{Shift}
use Rattle.lp_machine.specs.DriverStanding.{in_hand, mending_of}
use Rattle.lp_machine.specs.ExpectedList.{action_on_error}
use Rattle.lp_machine.specs.Move.{looks_below, checks, moves}
use Rattle.lp_machine.specs.Moves.{ready, asks_error}
use Rattle.lp_machine.specs.RunEnds.{ended}
use Rattle.lp_machine.specs.Tables.{Tables}
use Rattle.lp_turn_laws.specs.Paths.Standing.{IsOnPath}
use Rattle.lp_turn_laws.specs.Paths.Walks.{IsPath}
use Rattle.lp_turn_laws.specs.Alike.Answered.{IsFront}
use Rattle.lp_turn_laws.specs.Alike.Symbols.{AreAlike}

-- each token of the items is known
pub record AreKnown (Known : Token → Type 0) (items : List RunItem) : Type 0 where
  pub at : (k : ℕ) (a b : Loc) (token : Token) → slice_get items k ≡ Some (item.Token a token b) → Known token

-- the token in hand is one, and its number is its terminal's
abbrev pub IsHeld : (Token → Type 0) → Tables → Option Lookahead → Type 0
IsHeld Known t None = Unit {0}
IsHeld Known t (Some l) = Known l.token.1 × (t.terminal l.token.1 ≡ Some l.index)

-- without a token in hand no item is left
abbrev pub EndsWith : Option Lookahead → List RunItem → Type 0
EndsWith None rest = rest ≡ []
EndsWith (Some l) rest = Unit {0}

-- ---- what both are at
-- in the driver's words, but with a trial's stack by its numbers, and with the state that the error is shifted to
pub data Phase : Type 0 where
  Parses : (hand : Option Lookahead) → Phase
  Mends : (r : Recovering) → Phase
  Seeks : (r : Recovering) (places : ℕ) → Phase
  Tests : (r : Recovering) (place to : ℕ) (trial : List ℕ) → Phase

abbrev pub mode_in : Phase → Mode
mode_in (Parses hand) = Parsing hand
mode_in (Mends r) = Reducing r
mode_in (Seeks r places) = Trying r places
mode_in (Tests r place to trial) = Simulating r place (map pos trial)

-- there is an error terminal, and the token in hand is known
pub record IsMendable (Known : Token → Type 0) (t : Tables) (r : Recovering) : Type 0 where
  pub error : ℕ
  pub is_error : t.error ≡ Some error
  pub held : IsHeld Known t r.lookahead

-- the state at a place of a stack shifts the error there
pub record ShiftsError (t : Tables) (stack : List ℕ) (place to : ℕ) : Type 0 where
  pub state : ℕ
  pub at : slice_get stack place ≡ Some state
  pub shifts : action_on_error t (Some state) ≡ Shift to

-- what is known there, with these items left
abbrev pub Fits : (Token → Type 0) → List Lr1State → Tables → List ℕ → List RunItem → Phase → Type 0
Fits Known states t stack rest (Parses hand) = IsHeld Known t hand
Fits Known states t stack rest (Mends r) = IsMendable Known t r × EndsWith r.lookahead rest
Fits Known states t stack rest (Seeks r places) = IsMendable Known t r × (places ≤ length stack)
Fits Known states t stack rest (Tests r place to trial) = IsMendable Known t r × ShiftsError t stack place to × IsOnPath states trial

-- a driver by its stacks
abbrev pub driver_at : {S : Type 0} → List ℕ → List (Spanned S) → List RunItem → Mode → Loc → Driver S
driver_at stack mine items mode last = record { states = map pos stack; symbols = mine; items = items; mode = mode; begin = Default; last = last }

-- the machine with these stacks, before it asks what is left
abbrev pub machine_at : List ℕ → List (Spanned Value) → List Call → ℕ → Option Lookahead → Option Mending → Loc → Config
machine_at stack triples calls taken hand mending last =
    record { states = stack; triples = triples; lookahead = in_hand hand; mending = mending; taken = taken; last = last; calls = calls; left = Pulls }

-- the same while an error is mended
abbrev pub mending_at : List ℕ → List (Spanned Value) → List Call → ℕ → Recovering → Loc → Config
mending_at stack triples calls taken r last = machine_at stack triples calls taken r.lookahead (Some (mending_of r)) last

-- what is left for it there
abbrev pub machine_in : Tables → List RunItem → List ℕ → List (Spanned Value) → List Call → ℕ → Loc → Phase → Config
machine_in t items stack triples calls taken last (Parses hand) = ready t items (machine_at stack triples calls taken hand None last)
machine_in t items stack triples calls taken last (Mends r) = asks_error t items (mending_at stack triples calls taken r last)
machine_in t items stack triples calls taken last (Seeks r places) = looks_below t items (mending_at stack triples calls taken r last) places
machine_in t items stack triples calls taken last (Tests r place to trial) = checks t items (mending_at stack triples calls taken r last) place to trial

-- a driver and the machine stand at the same place of a path
pub record Stands {S D U : Type 0} (seen : D → List U) (Ready : D → Type 0) (told : Call → U) (states : List Lr1State) (t : Tables) (Is : SymbolNumber → S → Value → Type 0) (Known : Token → Type 0) (items : List RunItem)
    (w : Driver S) (d : D) (c : Config) : Type 0 where
  pub stack : List ℕ
  pub symbols : List SymbolNumber
  pub mine : List (Spanned S)
  pub triples : List (Spanned Value)
  pub calls : List Call
  pub taken : ℕ
  pub phase : Phase
  pub last : Loc
  pub driver : w ≡ driver_at stack mine (drop taken items) (mode_in phase) last
  pub machine : c ≡ machine_in t items stack triples calls taken last phase
  pub path : IsPath states stack symbols
  pub alike : AreAlike Is symbols mine triples
  pub fits : Fits Known states t stack (drop taken items) phase
  pub is_ready : Ready d
  pub called : seen d ≡ map told calls

-- so many moves lead from the one to the other, and none before the last of them ends the run
pub record Leads (t : Tables) (items : List RunItem) (a b : Config) (n : ℕ) : Type 0 where
  pub comes : moves t items n a ≡ b
  pub before : (k : ℕ) (e : Ending) → ended (moves t items k a).left ≡ Some e → n ≤ k

-- Costs of a move besides five: before an error is mended each terminal is looked at, which are moves, but where none has a name.
abbrev pub extra_with : Option ℕ → ℕ → ℕ
extra_with None names = 0
extra_with (Some e) zero = 4
extra_with (Some e) (suc names) = 0

abbrev pub extra : Tables → ℕ
extra t = extra_with t.error (length t.names)

-- how many costs go with a move
abbrev pub rate : Tables → ℕ
rate t = 5 + extra t

-- How many costs are put aside for questions that go with no move of the machine, as those after an error and of a place that serves: a turn spends what is aside,
-- and the costs of its moves, and puts aside what the next one may spend so.
abbrev pub aside : Tables → Mode → ℕ
aside t (Parsing hand) = 3 + extra t
aside t (Reducing r) = 4
aside t (Trying r places) = 3
aside t (Simulating r place stack) = 7 + extra t

-- Where a driver's turns lead, from where it stands with the machine and has costs put aside: on, in at most those and the costs of the moves; to an end that the machine comes to, with the same calls;
-- or, after calls that the machine's begin with, to a halt for want of those and the costs of the moves until the machine's end.
pub data Follows {S D U : Type 0} (left : D → ℕ) (seen : D → List U) (Ready : D → Type 0) (told : Call → U) (states : List Lr1State) (t : Tables) (Is : SymbolNumber → S → Value → Type 0) (Known : Token → Type 0) (cost : ℕ) (items : List RunItem)
    (spare : ℕ) (c : Config) (d : D) : Next S D → Type 0 where
  Goes : (w : Driver S) (after : D) (b : Config) (n : ℕ) → Stands seen Ready told states t Is Known items w after b → Leads t items c b n → left d + cost * aside t w.mode ≤ left after + cost * (rate t * n + spare)
      → Follows left seen Ready told states t Is Known cost items spare c d (Goes_on w after)
  Comes : (e : Ending) (after : D) (m : ℕ) → ended (moves t items m c).left ≡ Some e → seen after ≡ map told (moves t items m c).calls
      → Follows left seen Ready told states t Is Known cost items spare c d (Ends e after)
  Stops : (after : D) (m : ℕ) → IsFront (seen after) (map told (moves t items m c).calls) → ((k : ℕ) (e : Ending) → ended (moves t items k c).left ≡ Some e → left d < cost * (rate t * k + spare))
      → Follows left seen Ready told states t Is Known cost items spare c d (Halted Spent after)
