-- What a frame's names show at other places of its code.
use Rattle.std.proofs.Common.{◌≡◌, ℕ, ◌+◌, ◌≤◌, false, List, ◌++◌, codes, Some, None, ap, ◌∙◌, arith, slice_get, decimal}
use Rattle.std.specs.Prelude.{slice_set}
use Rattle.std.specs.Str.{bytes_eq}
use Rattle.lp_repr.specs.declared.values.Loc.{Loc}
use Rattle.lp_driver.specs.Values.{Token}
use Rattle.lp_core.specs.Datum.{Unset}
use Rattle.lp_core.specs.Reading.{triple}
use Rattle.lp_core.specs.Val.{Val, Plain}
use Rattle.lp_view.specs.PartLists.{Form, hole_of}
use Rattle.lp_maker.specs.Slots.{Names, after_slots, slot_among}
use Rattle.lp_code_laws.specs.Slots.Shows.{Shows, HasRoom, Keeps}
use Rattle.lp_code_laws.proofs.Slots.Names.{kept, shows_after, let_other, let_this}
use Rattle.lp_code_laws.proofs.Slots.Slots.{keeps_both, keeps_set, room_after, room_kept}
use Rattle.lp_ascent_bodies.specs.declared.ascent.Lines.{Lines as Shared}
use Rattle.lp_code_laws.proofs.Ends.Lists.{get_other}
use Rattle.lp_question_laws.proofs.Reductions.Arguments.{show_moved}
use Rattle.lp_back_end_laws.specs.Call.Turns.{ShowsFrame}
use Rattle.lp_back_end_laws.proofs.Call.ArmBodies.{IsCut}
use Rattle.lp_back_end_laws.proofs.Call.FrameCells.{all_shown}
use Rattle.lp_back_end_laws.proofs.Call.ShiftArms.{token_slots, shift_symbol, value_val}
use Rattle.lp_back_end_laws.proofs.Call.Transitions.{result_slots}

-- behind blocks that have ended
pub cut_shows : {names later : Names} {env : List Val} {q : List ℕ} {v : Val} → IsCut names later → Shows names env q v → Shows later env q v
cut_shows {q = q} cut h = record { slot = h.slot; is = ap (slot_among q None) cut.known ∙ h.is; below = omega (arith, h.below, cut.next); held = h.held }

-- where each name shows the same
pub frame_moved : {names later : Names} {env after : List Val} {keys : List (List ℕ)} {given : List Val} {list : ℕ} {own : List Val} → ((q : List ℕ) (v : Val) → Shows names env q v → Shows later after q v) → ShowsFrame names env keys given list own → ShowsFrame later after keys given list own
frame_moved {names} {later} {env} {after} {keys} {given} move h = record {
  parameters = show_moved names later env after keys given move h.parameters;
  tokens = move _ _ h.tokens;
  states = move _ _ h.states;
  slots = λ j v at. move _ v (h.slots j v at);
}

-- where each name but one shows the same
pub frame_but : {names later : Names} {env after : List Val} {keys : List (List ℕ)} {given : List Val} {list : ℕ} {own : List Val} (P : List ℕ → Type 0) → ((i : ℕ) (q : List ℕ) → slice_get keys i ≡ Some q → P q) → P (codes "~tokens") → P (codes "~states") → ((j : ℕ) → P (codes "~sym" ++ decimal j))
    → ((q : List ℕ) (v : Val) → P q → Shows names env q v → Shows later after q v) → ShowsFrame names env keys given list own → ShowsFrame later after keys given list own
frame_but {keys = keys} {given} {list} P of_keys of_tokens of_states of_slots move h = record {
  parameters = all_shown P keys given of_keys move h.parameters;
  tokens = move (codes "~tokens") _ of_tokens h.tokens;
  states = move (codes "~states") _ of_states h.states;
  slots = λ j v at. move (codes "~sym" ++ decimal j) v (of_slots j) (h.slots j v at);
}

pub frame_cut : {names later : Names} {env : List Val} {keys : List (List ℕ)} {given : List Val} {list : ℕ} {own : List Val} → IsCut names later → ShowsFrame names env keys given list own → ShowsFrame later env keys given list own
frame_cut cut h = frame_moved (λ q v. cut_shows cut) h

-- once a callee's answer is the result
pub result_shows : {names : Names} {env after : List Val} {q : List ℕ} {u : Val} (x made : ℕ) (v : Val) → Keeps names.next env after → names.next ≤ x → (h : Shows names env q u) → (made ≡ h.slot → ⊥) → Shows names (result_slots x made v after) q u
result_shows {names} {env} {after} x made v keeps above h apart = record {
  slot = h.slot;
  is = h.is;
  below = h.below;
  held = get_other (slice_set after x (Plain Unset)) made h.slot v apart ∙ get_other after x h.slot (Plain Unset) (λ e. omega (arith, e, h.below, above)) ∙ keeps.same h.slot h.below ∙ h.held;
}

-- ---- the lines of a shift's symbol
module _ (prefix : List ℕ) (shared : Shared) (names : Names) (line : Form) (env : List Val) (a b : Loc) (token : Token) (n : ℕ) where
  abbrev parted : List Val
  parted = token_slots names.next a token b env

  -- the slots with the symbol
  abbrev pub symbol_slots : List Val
  symbol_slots = slice_set parted (names.next + 3) (triple a (value_val n token) b)

  parts_keep : Keeps names.next env parted
  parts_keep = keeps_both (keeps_set names.next names.next env _ (omega arith)) (keeps_both (keeps_set names.next (names.next + 1) _ _ (omega arith)) (keeps_set names.next ((names.next + 1) + 1) _ _ (omega arith)))

  pub symbol_keeps : Keeps names.next env symbol_slots
  symbol_keeps = keeps_both parts_keep (keeps_set names.next (names.next + 3) parted _ (omega arith))

  -- its name shows it, other names what they showed
  pub symbol_this : HasRoom 4 names env → Shows (shift_symbol prefix shared names line).names symbol_slots (codes "~sym" ++ hole_of 1 line) (triple a (value_val n token) b)
  symbol_this room = let_this (codes "~sym" ++ hole_of 1 line) (after_slots 3 names) parted _ (room_kept (room_after 3 1 names env room) parts_keep)

  pub symbol_other : {q : List ℕ} {u : Val} → bytes_eq (codes "~sym" ++ hole_of 1 line) q ≡ false → Shows names env q u → Shows (shift_symbol prefix shared names line).names symbol_slots q u
  symbol_other other h = let_other (codes "~sym" ++ hole_of 1 line) _ other (shows_after 3 (kept h parts_keep))
