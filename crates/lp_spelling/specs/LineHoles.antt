-- Lines whose holes are found again: what they spell is read as them.
use Rattle.std.specs.Prelude.{◌≡◌, ◌⊎◌, ℕ, ◌<◌, suc, Bool, true, not, ◌&&◌, ◌==◌, if◌then◌else◌, nat_lt, List, [], ◌∷◌, ◌++◌, length, get_or, take}
use Rattle.lp_form.specs.declared.template.Kind.{Kind}
use Rattle.lp_form.specs.declared.template.Slot.{Slot}
use Rattle.lp_form.specs.declared.template.Slot.TheVariants.{Nothing, Prefix, Hole}
use Rattle.lp_form.specs.Templates.{Piece}
use Rattle.lp_spelling.specs.Lines.{line_of}
use Rattle.lp_spelling.specs.HoleEnds.{is_word, hole_len}
use Rattle.lp_spelling.specs.LineReading.{kind_of}

-- in what a hole and the parts behind it spell, the hole is as long as it is taken to be
abbrev pub IsFound : List ℕ → List Kind → List (List ℕ) → ℕ → List Piece → Type 0
IsFound prefix kinds holes k parts =
    hole_len prefix (kind_of kinds k) k parts (take k holes) (get_or holes k [] ++ line_of prefix holes parts) ≡ length (get_or holes k [])

-- how many holes are known after a slot, and after a line
abbrev pub known_after : Slot → ℕ → ℕ
known_after Nothing n = n
known_after Prefix n = n
known_after (Hole k) n = if k == n then suc n else n

abbrev pub known_in : List Piece → ℕ → ℕ
known_in [] n = n
known_in (p ∷ parts) n = known_in parts (known_after p.1 n)

-- a slot is no hole, a hole that is known, or the next one, which is found
abbrev pub SlotFound : List ℕ → List Kind → List (List ℕ) → ℕ → Slot → List Piece → Type 0
SlotFound prefix kinds holes n Nothing parts = Unit {0}
SlotFound prefix kinds holes n Prefix parts = Unit {0}
SlotFound prefix kinds holes n (Hole k) parts = (k < n) ⊎ ((k ≡ n) × (n < length holes) × IsFound prefix kinds holes n parts)

-- all slots of a line, where n holes are known before it
unfoldable pub AreFound : List ℕ → List Kind → List (List ℕ) → ℕ → List Piece → Type 0
AreFound prefix kinds holes n [] = Unit {0}
AreFound prefix kinds holes n (p ∷ parts) = SlotFound prefix kinds holes n p.1 parts × AreFound prefix kinds holes (known_after p.1 n) parts

-- no word goes on into the parts
abbrev pub is_apart : List Piece → Bool
is_apart [] = true
is_apart (p ∷ parts) = nat_lt 0 (length p.0) && not (is_word (get_or p.0 0 0))
