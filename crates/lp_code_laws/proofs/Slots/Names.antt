-- What names show, as lines bind names and blocks end.
use Rattle.std.proofs.Common.{◌&&◌, eq-eqb, ◌≡◌, ℕ, ◌<◌, true, false, List, [], ◌∷◌, ◌++◌, length, take, Option, Some, None, refl, sym, ap, ◌∙◌, arith, append_assoc}
use Rattle.std.specs.Prelude.{slice_get, slice_set, if◌then◌else◌}
use Rattle.std.specs.Str.{bytes_eq}
use Rattle.std.proofs.lemmas.List.{append-nil}
use Rattle.std.proofs.lemmas.Slice.Eq.{bytes_eq-Decides}
use Rattle.lp_core.specs.Val.{Val}
use Rattle.lp_maker.specs.Slots.{Names, after_slots, named, bound, cut_to, slot_after, slot_among, slot_of}
use Rattle.lp_maker.specs.Constructs.{read, take_slot, read_found, take_found}
use Rattle.lp_maker.specs.Making.{read_name, take_name}
use Rattle.lp_code_laws.specs.Slots.Shows.{Shows, HasRoom, Keeps, Extends}
use Rattle.lp_code_laws.proofs.Ends.Lists.{get_same, take_first}
use Rattle.lp_code_laws.proofs.Slots.Slots.{keeps_set, next_slot}

-- a text is equal to itself, and two that differ aren't
pub same_text : (a : List ℕ) → bytes_eq a a ≡ true
same_text a = (bytes_eq-Decides a a).1 refl

pub other_text : (a b : List ℕ) → (a ≡ b → ⊥) → bytes_eq a b ≡ false
other_text a b differ = grind (arith, bytes_eq-Decides a b)

-- what stands behind the same text
pub behind_front : (front a b : List ℕ) → bytes_eq (front ++ a) (front ++ b) ≡ bytes_eq a b
behind_front [] a b = refl
behind_front (x ∷ front) a b = ap (λ t. t && bytes_eq (front ++ a) (front ++ b)) (eq-eqb x x refl) ∙ behind_front front a b

-- what is found in some names and then in others
pub among_append : (key : List ℕ) (found : Option ℕ) (a b : List (List ℕ × ℕ)) → slot_among key found (a ++ b) ≡ slot_among key (slot_among key found a) b
among_append key found [] b = refl
among_append key found (x ∷ a) b = among_append key (slot_after key found x) a b

-- the last name counts
pub slot_named : (key name : List ℕ) (slot : ℕ) (names : Names) → slot_of key (named name slot names) ≡ (if bytes_eq name key then Some slot else slot_of key names)
slot_named key name slot names = among_append key None names.known ((name, slot) ∷ [])

pub named_this : (name : List ℕ) (slot : ℕ) (names : Names) → slot_of name (named name slot names) ≡ Some slot
named_this name slot names = slot_named name name slot names ∙ ap (λ b. if b then Some slot else slot_of name names) (same_text name)

pub named_other : (key name : List ℕ) (slot : ℕ) (names : Names) → bytes_eq name key ≡ false → slot_of key (named name slot names) ≡ slot_of key names
named_other key name slot names other = slot_named key name slot names ∙ ap (λ b. if b then Some slot else slot_of key names) other

module _ {names : Names} {env : List Val} {key : List ℕ} {v : Val} where
  -- what is read: the slot
  pub reads : (h : Shows names env key v) → read_name names key ≡ read h.slot
  reads h = ap read_found h.is

  pub takes : (h : Shows names env key v) → take_name names key ≡ take_slot h.slot
  takes h = ap take_found h.is

  -- later slots are written
  pub kept : {after : List Val} → Shows names env key v → Keeps names.next env after → Shows names after key v
  kept h k = record { slot = h.slot; is = h.is; below = h.below; held = k.same h.slot h.below ∙ h.held }

  -- slots without names are given out
  pub shows_after : (c : ℕ) → Shows names env key v → Shows (after_slots c names) env key v
  shows_after c h = record { slot = h.slot; is = h.is; below = omega (arith, h.below); held = h.held }

  -- another name is bound
  pub shows_other : (name : List ℕ) → bytes_eq name key ≡ false → Shows names env key v → Shows (bound name names) env key v
  shows_other name other h = record {
    slot = h.slot;
    is = named_other key name names.next (after_slots 1 names) other ∙ h.is;
    below = omega (arith, h.below);
    held = h.held;
  }

  -- a slot has another name
  pub shows_named : (name : List ℕ) (slot : ℕ) → bytes_eq name key ≡ false → Shows names env key v → Shows (named name slot names) env key v
  shows_named name slot other h = record { slot = h.slot; is = named_other key name slot names other ∙ h.is; below = h.below; held = h.held }

  -- a `let` of another name
  pub let_other : (name : List ℕ) (w : Val) → bytes_eq name key ≡ false → Shows names env key v → Shows (bound name names) (slice_set env names.next w) key v
  let_other name w other h = record {
    slot = h.slot;
    is = named_other key name names.next (after_slots 1 names) other ∙ h.is;
    below = omega (arith, h.below);
    held = (keeps_set names.next names.next env w (omega arith)).same h.slot h.below ∙ h.held;
  }

  -- the end of a block cuts to the mark where it began
  pub cut : {later : Names} → Shows names env key v → Extends names later → Shows (cut_to (length names.known) later) env key v
  cut {later} h e = record {
    slot = h.slot;
    is = ap (λ l. slot_among key None l) (ap (take (length names.known)) e.known ∙ take_first names.known e.extra) ∙ h.is;
    below = omega (arith, h.below, e.next);
    held = h.held;
  }

-- the name itself is bound, or is a `let`, or is given to a slot
pub shows_this : (name : List ℕ) (names : Names) (env : List Val) (v : Val) → slice_get env names.next ≡ Some v → Shows (bound name names) env name v
shows_this name names env v is = record { slot = names.next; is = named_this name names.next (after_slots 1 names); below = omega arith; held = is }

pub let_this : (name : List ℕ) (names : Names) (env : List Val) (w : Val) → HasRoom 1 names env → Shows (bound name names) (slice_set env names.next w) name w
let_this name names env w r = record {
  slot = names.next;
  is = named_this name names.next (after_slots 1 names);
  below = omega arith;
  held = get_same env names.next (next_slot r).1;
}

pub named_shows : (name : List ℕ) (slot : ℕ) (names : Names) (env : List Val) (v : Val) → slice_get env slot ≡ Some v → slot < names.next → Shows (named name slot names) env name v
named_shows name slot names env v is less = record { slot = slot; is = named_this name slot names; below = less; held = is }

-- a name shows one value
pub one_value : {names : Names} {env : List Val} {key : List ℕ} {v w : Val} → Shows names env key v → Shows names env key w → v ≡ w
one_value h g = cc

-- names that know more
pub extends_none : (names : Names) → Extends names names
extends_none names = record { extra = []; known = sym (append-nil names.known); next = omega arith }

pub extends_both : {a b c : Names} → Extends a b → Extends b c → Extends a c
extends_both {a} {b} {c} h g = record { extra = h.extra ++ g.extra; known = g.known ∙ ap (λ l. l ++ g.extra) h.known ∙ append_assoc a.known h.extra g.extra; next = omega (arith, h.next, g.next) }

pub extends_after : (c : ℕ) (names : Names) → Extends names (after_slots c names)
extends_after c names = record { extra = []; known = sym (append-nil names.known); next = omega arith }

pub extends_named : (name : List ℕ) (slot : ℕ) (names : Names) → Extends names (named name slot names)
extends_named name slot names = record { extra = (name, slot) ∷ []; known = refl; next = omega arith }

pub extends_bound : (name : List ℕ) (names : Names) → Extends names (bound name names)
extends_bound name names = record { extra = (name, names.next) ∷ []; known = refl; next = omega arith }
