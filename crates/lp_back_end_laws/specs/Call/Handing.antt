-- How a frame hands its slots on to the callee of an edge.
use Rattle.std.specs.Prelude.{◌≡◌, ℕ, ◌+◌, ◌-◌, ◌<◌, ◌≤◌, true, List, [], ◌∷◌, ◌++◌, map, length, take, drop, Some, None, slice_get}
use Rattle.lp_driver.specs.Values.{Spanned, Value}
use Rattle.lp_machine.specs.declared.config.Config.{Config}
use Rattle.lp_machine.specs.ReductionSpan.{popped}
use Rattle.lp_core.specs.Store.{Held}
use Rattle.lp_core.specs.Val.{Val}
use Rattle.lp_question_laws.specs.Tables.Acts.{symbol_val}
use Rattle.lp_ascent.specs.Slots.{Layout, count_of}
use Rattle.lp_back_end_laws.specs.Call.Frames.{Emptied}

-- what the slots of an edge's target are to those of its source
pub record HandsOn (l k : Layout) : Type 0 where
  -- the new symbol is fixed, and the others are slots of the source
  pub some_fixed : 0 < k.fixed
  pub fixed_within : k.fixed ≤ count_of k
  pub within : count_of k ≤ count_of l + 1
  -- where more are fixed the source's other slots are cells; else, if there are others, all are made cells
  pub fixed_grow : 1 < k.fixed → l.fixed < k.fixed
  pub made_optional : k.fixed ≡ 1 → 1 < count_of k → l.made_optional ≡ true

-- the callee's slots: the last ones of these with the new symbol
abbrev pub handed_slots : Layout → Layout → List Val → Val → List Val
handed_slots l k slots v = drop (count_of l + 1 - count_of k) (slots ++ v ∷ [])

-- the values of the last q of a frame's own slots are taken out of their cells
pub record TakenOut (l : Layout) (q : ℕ) (triples : List (Spanned Value)) (own out : List Val) (before after : List Held) : Type 0 where
  pub as_many : length out ≡ length own
  pub kept : (j : ℕ) → j + q < count_of l → slice_get out j ≡ slice_get own j
  pub values : (j : ℕ) (x : Spanned Value) → count_of l ≤ j + q → slice_get (popped (count_of l) triples) j ≡ Some x → slice_get out j ≡ Some (symbol_val x)
  pub cells : Emptied l q own before after

-- the machine has pushed a state and a symbol
pub record Pushed (c after : Config) (p : ℕ) (x : Spanned Value) : Type 0 where
  pub states : after.states ≡ c.states ++ p ∷ []
  pub triples : after.triples ≡ c.triples ++ x ∷ []
  pub mending : after.mending ≡ None

-- slots, of which those from a number on are these symbols' values
abbrev pub with_values : ℕ → List Val → List (Spanned Value) → List Val
with_values first slots xs = take first slots ++ map symbol_val (drop first xs)
