-- What is known of the code of a state's loop over gotos.
use Rattle.std.specs.Prelude.{◌≡◌, ℕ, ◌<◌, ◌≤◌, true, false, List, codes, Some}
use Rattle.std.specs.Str.{bytes_eq}
use Rattle.lp_repr.specs.declared.lr1.Lr1State.{Lr1State}
use Rattle.lp_repr.specs.declared.repr.Grammar.{Grammar}
use Rattle.lp_core.specs.declared.value.StateType.{StateType}
use Rattle.lp_core.specs.Store.{Program}
use Rattle.lp_core.specs.Tree.{Loop}
use Rattle.lp_view.specs.PartLists.{Form}
use Rattle.lp_maker.specs.Making.{Making}
use Rattle.lp_maker.specs.Slots.{slot_of}
use Rattle.lp_ascent_bodies.specs.declared.ascent.Lines.{Lines as Shared}
use Rattle.lp_ascent_bodies.specs.AscentGotos.{goto_loop}
use Rattle.lp_ascent.specs.GotoLines.{goes_on, goto_lines}
use Rattle.lp_ascent.specs.Slots.{layouts_of}
use Rattle.lp_back_end_laws.specs.Call.Slots.{layout}
use Rattle.lp_back_end_laws.specs.Call.Turns.{Looping}
use Rattle.lp_back_end_laws.proofs.Call.Linked.{IsIn}

-- the printed loop of a state
abbrev pub loop_form : Grammar → List Lr1State → ℕ → Lr1State → Form
loop_form g states q s = goto_lines g (layouts_of g states) (layout g states q) s.gotos.entries

-- a state that goes on has this loop: it was read from the printed one, over these names, behind what was made before
pub record LoopCode (g : Grammar) (states : List Lr1State) (p : Program) (variant : ℕ → ℕ) (kind : StateType) (before : Making) (q : ℕ) (s : Lr1State) (loop : Looping) : Type 0 where
  pub goes : goes_on g (layouts_of g states) s ≡ true
  pub shared : Shared
  pub made : Making
  pub turn : Loop loop.turn ≡ (goto_loop shared made loop.names (loop_form g states q s)).value
  pub room : (goto_loop shared made loop.names (loop_form g states q s)).names.next ≤ loop.many
  pub made_in : IsIn g p variant (goto_loop shared made loop.names (loop_form g states q s)).made
  pub prefix : made.prefix ≡ before.prefix
  pub knows : made.names ≡ before.names
  -- the slot of the result has one name only
  pub kind_is : shared.kind ≡ Some kind
  pub made_is : shared.made ≡ loop.made
  pub below : shared.made < loop.names.next
  pub apart : (key : List ℕ) (slot : ℕ) → bytes_eq (codes "~result") key ≡ false → slot_of key loop.names ≡ Some slot → shared.made ≡ slot → ⊥
