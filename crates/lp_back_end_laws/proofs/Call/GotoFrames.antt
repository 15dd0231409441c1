-- What the names of a frame show in the arm of a goto.
use Rattle.std.proofs.Common.{◌≡◌, ℕ, ◌+◌, ◌<◌, ◌≤◌, ◌^◌, false, List, [], ◌∷◌, ◌++◌, length, codes, decimal, Some, slice_get, refl, ◌∙◌, arith}
use Rattle.std.specs.Prelude.{slice_set}
use Rattle.std.specs.Str.{bytes_eq}
use Rattle.std.proofs.lemmas.Option.{slice_get_within}
use Rattle.lp_core.specs.Val.{Val}
use Rattle.lp_code_laws.proofs.Ends.Lists.{get_same, get_other}
use Rattle.lp_maker.specs.Slots.{Names, bound, named, slot_of}
use Rattle.lp_code_laws.specs.Slots.Shows.{Shows, HasRoom, Keeps}
use Rattle.lp_code_laws.proofs.Slots.Names.{let_other, let_this, named_other, named_shows, other_text}
use Rattle.lp_code_laws.proofs.Slots.Slots.{get_within, keeps_both, keeps_set}
use Rattle.lp_question_laws.specs.Reductions.Arguments.{ShowAll}
use Rattle.lp_question_laws.specs.Reductions.Outer.{sym_name}
use Rattle.lp_question_laws.proofs.Reductions.Popping.{sym_apart}
use Rattle.lp_question_laws.proofs.Reductions.Texts.{AllKeys, IsKey}
use Rattle.lp_back_end_laws.specs.Call.Turns.{ShowsFrame}
use Rattle.lp_back_end_laws.proofs.Call.Loops.{parted_slots}

-- a parameter's name isn't one with the mark in front
pub key_apart : (prefix word q : List ℕ) → IsKey prefix q → bytes_eq (126 ∷ word) q ≡ false
key_apart prefix word [] h = refl
key_apart prefix word (c ∷ q) h = other_text (126 ∷ word) (c ∷ q) (λ e. h.no_mark.0 cc)

-- parameters show what they showed
pub keys_carried : (prefix : List ℕ) {names later : Names} {env after : List Val} → ((q : List ℕ) (v : Val) → IsKey prefix q → Shows names env q v → Shows later after q v) → (qs : List (List ℕ)) (vs : List Val) → AllKeys prefix qs → ShowAll names env qs vs → ShowAll later after qs vs
keys_carried prefix move [] [] a h = tt
keys_carried prefix move [] (v ∷ vs) a h = absurd h
keys_carried prefix move (q ∷ qs) [] a h = absurd h
keys_carried prefix move (q ∷ qs) (v ∷ vs) a h = (move q v a.0 h.0, h.1, keys_carried prefix move qs vs a.1 h.2)

-- a name of a frame's, none of those that the lines of an arm give anew
pub record IsOfFrame (count : ℕ) (q : List ℕ) : Type 0 where
  pub no_lookahead : bytes_eq (codes "~lookahead") q ≡ false
  pub no_result : bytes_eq (codes "~result") q ≡ false
  pub no_symbol : bytes_eq (sym_name count) q ≡ false

module _ (prefix : List ℕ) (count : ℕ) (small : count < 2 ^ 64) where
  key_of : (q : List ℕ) → IsKey prefix q → IsOfFrame count q
  key_of q h = record { no_lookahead = key_apart prefix (codes "lookahead") q h; no_result = key_apart prefix (codes "result") q h; no_symbol = key_apart prefix (codes "sym" ++ decimal count) q h }

  symbol_of : (j : ℕ) → j < count → IsOfFrame count (sym_name j)
  symbol_of j less = record { no_lookahead = refl; no_result = refl; no_symbol = sym_apart count j small (omega (arith, less, small)) (λ e. omega (arith, e, less)) }

  -- where each of these names shows the same
  pub frame_carried : {names later : Names} {env after : List Val} {keys : List (List ℕ)} {given : List Val} {list : ℕ} {own : List Val} → ((q : List ℕ) (v : Val) → IsOfFrame count q → Shows names env q v → Shows later after q v) → AllKeys prefix keys → length own ≡ count
      → ShowsFrame names env keys given list own → ShowsFrame later after keys given list own
  frame_carried {keys = keys} {given} {own = own} move plain many h = record {
    parameters = keys_carried prefix (λ q v key. move q v (key_of q key)) keys given plain h.parameters;
    tokens = move (codes "~tokens") _ (record { no_lookahead = refl; no_result = refl; no_symbol = refl }) h.tokens;
    states = move (codes "~states") _ (record { no_lookahead = refl; no_result = refl; no_symbol = refl }) h.states;
    slots = λ j v at. move (sym_name j) v (symbol_of j (omega (arith, slice_get_within own j v at, many))) (h.slots j v at);
  }

-- ---- in a goto's arm: the parts of what was made stand in two slots, the symbol in a third
abbrev pub in_arm : Names → Names → Names
in_arm names before = named (codes "~lookahead") names.next before

abbrev pub parts_slots : Names → Val → Val → List Val → List Val
parts_slots names look symbol env = parted_slots names.next look symbol env

abbrev pub arm_slots : Names → Names → Val → Val → Val → List Val → List Val
arm_slots names before look symbol v env = slice_set (parts_slots names look symbol env) before.next v

-- the names before the arm: those of the frame, and more slots were given out
pub record ArmNames (names before : Names) : Type 0 where
  pub others : (key : List ℕ) → bytes_eq (codes "~lookahead") key ≡ false → slot_of key before ≡ slot_of key names
  pub more : names.next + 2 ≤ before.next

module _ (names before : Names) (is : ArmNames names before) (env : List Val) (room : HasRoom 1 before env) (look symbol v : Val) (count : ℕ) where
  parted_keeps : Keeps names.next env (parts_slots names look symbol env)
  parted_keeps = keeps_both (keeps_set names.next names.next env look (omega arith)) (keeps_set names.next (names.next + 1) (slice_set env names.next look) symbol (omega arith))

  pub symbol_keeps : Keeps names.next env (arm_slots names before look symbol v env)
  symbol_keeps = keeps_both parted_keeps (keeps_set names.next before.next (parts_slots names look symbol env) v (omega (arith, is.more)))

  -- the symbol's slot in two parts
  pub symbol_there : slice_get (parts_slots names look symbol env) (names.next + 1) ≡ Some symbol
  symbol_there = let o = get_within (slice_set env names.next look) (names.next + 1) (omega (arith, room.room, is.more, (keeps_set names.next names.next env look (omega arith)).many)) in get_same (slice_set env names.next look) (names.next + 1) o.1

  pub parted_room : HasRoom 1 (in_arm names before) (parts_slots names look symbol env)
  parted_room = record { room = omega (arith, room.room, parted_keeps.many) }

  -- a name of the frame's shows what it showed
  pub arm_shows : (q : List ℕ) (u : Val) → IsOfFrame count q → Shows names env q u → Shows (bound (sym_name count) (in_arm names before)) (arm_slots names before look symbol v env) q u
  arm_shows q u frame h =
      let here : Shows (in_arm names before) (parts_slots names look symbol env) q u = record {
        slot = h.slot;
        is = named_other q (codes "~lookahead") names.next before frame.no_lookahead ∙ is.others q frame.no_lookahead ∙ h.is;
        below = omega (arith, h.below, is.more);
        held = parted_keeps.same h.slot h.below ∙ h.held;
      } in
      let_other (sym_name count) v frame.no_symbol here

  -- the lookahead has its name, and so has the symbol
  pub look_shows : Shows (bound (sym_name count) (in_arm names before)) (arm_slots names before look symbol v env) (codes "~lookahead") look
  look_shows =
      let o = get_within env names.next (omega (arith, room.room, is.more)) in
      let at_token : slice_get (parts_slots names look symbol env) names.next ≡ Some look = get_other (slice_set env names.next look) (names.next + 1) names.next symbol (λ e. omega (arith, e)) ∙ get_same env names.next o.1 in
      let_other (sym_name count) v refl (named_shows (codes "~lookahead") names.next before (parts_slots names look symbol env) look at_token (omega (arith, is.more)))

  pub symbol_shows : Shows (bound (sym_name count) (in_arm names before)) (arm_slots names before look symbol v env) (sym_name count) v
  symbol_shows = let_this (sym_name count) (in_arm names before) (parts_slots names look symbol env) v parted_room

-- the slots of names in the arm
pub arm_known : (names before : Names) → ArmNames names before → (count : ℕ) (q : List ℕ) → IsOfFrame count q → slot_of q (bound (sym_name count) (in_arm names before)) ≡ slot_of q names
arm_known names before is count q frame =
    named_other q (sym_name count) before.next (record (in_arm names before) { next = before.next + 1 }) frame.no_symbol ∙ named_other q (codes "~lookahead") names.next before frame.no_lookahead ∙ is.others q frame.no_lookahead
