-- Where the machine stands when a state's function is called, and at the end of a reduction.
use Rattle.std.specs.Prelude.{◌≡◌, ℕ, ◌+◌, ◌≤◌, true, false, pos, List, [], ◌∷◌, ◌++◌, map, length, Option, Some, None, slice_get}
use Rattle.std.specs.Option.{option_map}
use Rattle.lp_repr.specs.declared.lr1.Lr1State.{Lr1State}
use Rattle.lp_repr.specs.declared.repr.Grammar.{Grammar}
use Rattle.lp_repr.specs.declared.values.Loc.{Loc}
use Rattle.lp_repr.specs.declared.values.Loc.TheVariants.{Default}
use Rattle.lp_repr.specs.declared.values.RunItem.{RunItem}
use Rattle.lp_repr.specs.declared.values.RunItem.TheVariants as item
use Rattle.lp_driver.specs.DriverState.{last_of}
use Rattle.lp_driver.specs.RecoveryTurns.{end_or}
use Rattle.lp_driver.specs.Values.{Token, Spanned, Value}
use Rattle.lp_machine.specs.declared.calls.Call.{Call}
use Rattle.lp_machine.specs.declared.config.Config.{Config}
use Rattle.lp_machine.specs.declared.lookup.Rule.{Rule}
use Rattle.lp_machine.specs.Moves.{ready, asks, errs, valued}
use Rattle.lp_machine.specs.ReductionSpan.{below, popped, empty_place, span}
use Rattle.lp_machine.specs.StackMachine.{lookahead_start}
use Rattle.lp_machine.specs.Tables.{Tables}
use Rattle.lp_core.specs.declared.value.Tag.TheVariants as tag
use Rattle.lp_core.specs.Datum.{Cell}
use Rattle.lp_core.specs.Flow.{State}
use Rattle.lp_core.specs.Reading.{empty, wrapped, option_val, triple}
use Rattle.lp_core.specs.Store.{UserCall, States}
use Rattle.lp_core.specs.Val.{Val, Plain, Made, vals_of}
use Rattle.lp_turns.specs.DriverCall.{token_val}
use Rattle.lp_agrees.specs.Machine.{as_user}
use Rattle.lp_question_laws.specs.Tables.Acts.{symbol_val}
use Rattle.lp_ascent.specs.Slots.{Layout, has_lookahead}
use Rattle.lp_turn_laws.specs.Paths.Standing.{StandsOn}
use Rattle.lp_turn_laws.specs.Paths.Walks.{Has}
use Rattle.lp_back_end_laws.specs.Call.Slots.{layout}
use Rattle.lp_back_end_laws.specs.Call.Frames.{comes_as_cell, AreSlots, AreApart}

abbrev pub as_users : List Call → List UserCall
as_users calls = map as_user calls

-- a token with its span, and the lookahead, as a state's function is handed them
abbrev pub token_triple : Spanned Token → Val
token_triple x = triple x.0 (token_val x.1) x.2

abbrev pub look_val : Option (Spanned Token) → Val
look_val look = option_val (option_map token_triple look)

-- the top symbol ends where the last token that was taken ends: so it is between tokens and at the end
abbrev pub EndsThere : Config → Type 0
EndsThere c = end_or (last_of c.triples) Default ≡ c.last

-- the machine has this token in hand
pub record Holds (t : Tables) (c : Config) (x : Spanned Token) : Type 0 where
  pub index : ℕ
  pub in_hand : c.lookahead ≡ Some (record { token = x; index = index })
  pub terminal : t.terminal x.1 ≡ Some index
  pub ends : x.2 ≡ c.last

-- no item is left, and no token in hand
pub record HasNone (items : List RunItem) (c : Config) : Type 0 where
  pub nothing : c.lookahead ≡ None
  pub all_taken : length items ≤ c.taken

-- the machine sees this lookahead: the end, a token of a terminal, or a token of none, whose error stands at once
pub data Sees (t : Tables) (items : List RunItem) (c : Config) : Option (Spanned Token) → Type 0 where
  at_end : HasNone items c → EndsThere c → c ≡ asks t items c → Sees t items c None
  known : (x : Spanned Token) → Holds t c x → c ≡ asks t items c → Sees t items c (Some x)
  unknown : (x : Spanned Token) → c.lookahead ≡ None → t.terminal x.1 ≡ None → c ≡ errs t items c (Some x) false → Sees t items c (Some x)

-- the lookahead is the end, or a token of the items
abbrev pub IsTaken : List RunItem → Option (Spanned Token) → Type 0
IsTaken items None = Unit {0}
IsTaken items (Some x) = (k : ℕ) × (a b : Loc) × (slice_get items k ≡ Some (item.Token a x.1 b))

-- a function is handed the lookahead, or it is to pull it
pub data Handed (t : Tables) (items : List RunItem) (l : Layout) (c : Config) : List Val → Type 0 where
  sees : (look : Option (Spanned Token)) → has_lookahead l ≡ true → IsTaken items look → Sees t items c look → Handed t items l c (look_val look ∷ [])
  pulls : has_lookahead l ≡ false → c.lookahead ≡ None → EndsThere c → c ≡ ready t items c → Handed t items l c []

-- the store and the calls of a run are the machine's: the list of states in a cell, the items taken, and the calls of user code
pub record Follows (c : Config) (list : ℕ) (st : State) : Type 0 where
  pub states_are : slice_get st.store.cells list ≡ Some (States (map pos c.states))
  pub taken : st.store.taken ≡ c.taken
  pub calls : st.calls ≡ as_users c.calls

-- a frame of the state stands on the machine's stacks
pub record OnTop (states : List Lr1State) (s : ℕ) (c : Config) : Type 0 where
  pub stands : StandsOn states c.states (length c.triples)
  pub top : last_of c.states ≡ Some s

-- before a call of a state's function with these values
pub record Entry (g : Grammar) (states : List Lr1State) (t : Tables) (items : List RunItem) (given : List Val) (s : ℕ) (c : Config) (list : ℕ) (slots vs : List Val) (st : State) : Type 0 where
  pub on_top : OnTop states s c
  pub mending : c.mending ≡ None
  pub look : List Val
  pub handed : Handed t items (layout g states s) c look
  -- the grammar's parameters, the token source, the list of states, the lookahead and the slots
  pub values : vs ≡ given ++ (empty tag.Tuple ∷ Plain (Cell list) ∷ look) ++ slots
  pub slots_are : AreSlots (layout g states s) (comes_as_cell (layout g states s)) 0 c.triples st.store.cells slots
  pub apart : AreApart slots
  pub follows : Follows c list st

-- what is left over of the lookahead when a reduction is made whose symbol ends at this place
abbrev pub Kept : Tables → List RunItem → Config → Loc → Option (Spanned Token) → Type 0
Kept t items c end None = HasNone items c × (end ≡ c.last)
Kept t items c end (Some x) = Holds t c x

-- where the symbol of a reduction stands
abbrev pub place_of : Config → Rule → Loc × Loc
place_of c rule = span (popped rule.length c.triples) (empty_place (lookahead_start c.lookahead) c.triples)

-- what a function answers of a reduction: the lookahead, and the symbol as a variant
abbrev pub answer_val : ℕ → Loc × Loc → Value → Option (Spanned Token) → Val
answer_val variant at value look = Made tag.Tuple (vals_of (look_val look ∷ wrapped (tag.Variant variant) (symbol_val (at.0, value, at.1)) ∷ []))

-- from c the machine came to the end of a reduction, whose item stands in the state with d symbols before its dot: so many symbols of this frame and of those below are taken; this is what a function answers of it
pub record Reduced (states : List Lr1State) (t : Tables) (items : List RunItem) (variant : ℕ → ℕ) (s : ℕ) (c : Config) (d : ℕ) (v : Val) (after : Config) : Type 0 where
  pub production : ℕ
  pub rule : Rule
  pub known : t.rule production ≡ Some rule
  pub item : Has states s production d
  -- the reduction is to be made; the start's ends the run
  pub value : Value
  pub pending : after ≡ valued t items after rule value
  pub mending : after.mending ≡ None
  pub fits : rule.length ≤ length after.triples
  pub heights : length after.states ≡ length after.triples + 1
  -- the stacks under it are the frame's without the last d
  pub triples : below rule.length after.triples ≡ below d c.triples
  pub states_below : below rule.length after.states ≡ below d c.states
  pub look : Option (Spanned Token)
  pub look_taken : IsTaken items look
  pub kept : Kept t items after (place_of after rule).1 look
  pub answers : v ≡ answer_val (variant rule.nonterminal) (place_of after rule) value look
