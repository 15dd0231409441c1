-- The text of a line: literal texts, the prefix, and what the holes hold.
use Rattle.std.specs.Prelude.{◌≡◌, ℕ, ◌<◌, List, [], ◌∷◌, ◌++◌, length, get_or}
use Rattle.lp_form.specs.Templates.{Piece}
use Rattle.lp_form.specs.declared.template.Slot.{Slot}
use Rattle.lp_form.specs.declared.template.Slot.TheVariants.{Nothing, Prefix, Hole}

-- the text of a slot
abbrev pub slot_text : List ℕ → List (List ℕ) → Slot → List ℕ
slot_text prefix holes Nothing = []
slot_text prefix holes Prefix = prefix
slot_text prefix holes (Hole k) = get_or holes k []

-- a line: each literal text, and what follows it
unfoldable pub line_of : List ℕ → List (List ℕ) → List Piece → List ℕ
line_of prefix holes [] = []
line_of prefix holes (p ∷ ps) = (p.0 ++ slot_text prefix holes p.1) ++ line_of prefix holes ps

-- a slot that is none of the holes from n on
abbrev pub IsTold : ℕ → Slot → Type 0
IsTold n Nothing = Unit {0}
IsTold n Prefix = Unit {0}
IsTold n (Hole k) = k < n

-- pieces with none of the holes from n on
unfoldable pub AreTold : ℕ → List Piece → Type 0
AreTold n [] = Unit {0}
AreTold n (p ∷ ps) = IsTold n p.1 × AreTold n ps

-- the text of a slot stands in front, where the holes that are known become these
pub record TakesSlot (prefix : List ℕ) (slot : Slot) (old new : List (List ℕ)) (text rest : List ℕ) : Type 0 where
  pub more : List (List ℕ)
  pub known : new ≡ old ++ more
  pub told : IsTold (length new) slot
  pub spelled : text ≡ slot_text prefix new slot ++ rest

-- the pieces spell what stands in front, where the holes that are known become these
pub record TakesParts (prefix : List ℕ) (parts : List Piece) (old new : List (List ℕ)) (text rest : List ℕ) : Type 0 where
  pub more : List (List ℕ)
  pub known : new ≡ old ++ more
  pub told : AreTold (length new) parts
  pub spelled : text ≡ line_of prefix new parts ++ rest
