-- The names that can be seen at a place, and their slots.
use Rattle.std.specs.Prelude.{ℕ, ◌+◌, List, [], ◌∷◌, ◌++◌, take, Option, Some, None, if◌then◌else◌}
use Rattle.std.specs.Str.{bytes_eq}

-- the names with their slots, the oldest first, and the next slot
pub record Names : Type 0 where
  pub known : List (List ℕ × ℕ)
  pub next : ℕ

abbrev pub names_of : List (List ℕ × ℕ) → ℕ → Names
names_of known next = record { known = known; next = next }

abbrev pub no_names : Names
no_names = names_of [] 0

-- so many slots were given out
abbrev pub after_slots : ℕ → Names → Names
after_slots count names = names_of names.known (names.next + count)

-- a slot has a name
abbrev pub named : List ℕ → ℕ → Names → Names
named name slot names = names_of (names.known ++ (name, slot) ∷ []) names.next

-- a name has the next slot
abbrev pub bound : List ℕ → Names → Names
bound name names = named name names.next (after_slots 1 names)

-- so many names stay
abbrev pub cut_to : ℕ → Names → Names
cut_to mark names = names_of (take mark names.known) names.next

-- the slot that was found, or that of a later name
abbrev pub slot_after : List ℕ → Option ℕ → List ℕ × ℕ → Option ℕ
slot_after name found entry = if bytes_eq entry.0 name then Some entry.1 else found

abbrev pub slot_among : List ℕ → Option ℕ → List (List ℕ × ℕ) → Option ℕ
slot_among name found [] = found
slot_among name found (entry ∷ entries) = slot_among name (slot_after name found entry) entries

-- the slot of a name, which is that of the last one that is equal to it
abbrev pub slot_of : List ℕ → Names → Option ℕ
slot_of name names = slot_among name None names.known
