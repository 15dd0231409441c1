-- What the check keeps of a grammar and its states.
use Rattle.std.specs.Prelude.{◌≡◌, ◌↔◌, ℕ, List, length, Some, IsTrue, slice_get}
use Rattle.lp_repr.specs.declared.lr1.Lr1State.{Lr1State}
use Rattle.lp_repr.specs.declared.numbering.Rule.{Rule}
use Rattle.lp_repr.specs.declared.repr.Grammar.{Grammar}
use Rattle.lp_tables.specs.ItemSets.{IsSetOf}
use Rattle.lp_tables.specs.Numbers.{IsIndex}
use Rattle.lp_tables.specs.Opening.{IsClosed}
use Rattle.lp_tables.specs.TableRules.{Known, known_of}
use Rattle.lp_tables.specs.declared.tables.StateItems.{StateItems}
use Rattle.lp_tables.specs.declared.tables.Tables.{Tables}

-- the items of a state
pub record Describes (rules : List Rule) (s : Lr1State) (k : StateItems) : Type 0 where
  pub set : IsSetOf s.items k.set
  pub closed : IsTrue k.is_closed ↔ IsClosed rules s

-- of each state its items
pub record AllDescribed (rules : List Rule) (states : List Lr1State) (all : List StateItems) : Type 0 where
  pub size : length all ≡ length states
  pub each : (i : ℕ) (s : Lr1State) (k : StateItems) → slice_get states i ≡ Some s → slice_get all i ≡ Some k → Describes rules s k

-- what the rules know of a grammar, as the check keeps it
abbrev pub known_by : Tables → Known
known_by t = record { rules = t.rules.all.items; terminals = t.terminals; nonterminals = t.nonterminals; start = t.start }

-- the productions have their index, and the states their items
pub record AreIndexed (t : Tables) : Type 0 where
  pub index : IsIndex t.rules.all.items t.rules.firsts.items
  pub sets : AllDescribed t.rules.all.items t.states.now t.sets.items

-- the tables of a grammar, a start and states
pub record AreTables (g : Grammar) (start : ℕ) (states : List Lr1State) (t : Tables) : Type 0 where
  pub indexed : AreIndexed t
  pub known : known_by t ≡ known_of g start
  pub kept : t.states.now ≡ states
