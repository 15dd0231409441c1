-- What is known of a printed line from left to right: bytes of literal texts, the prefix, and texts that fill holes.
use Rattle.std.specs.Prelude.{◌≡◌, ℕ, if◌then◌else◌, nat_lt, List, [], ◌∷◌, ◌++◌, length, map, codes}
use Rattle.lp_form.specs.Templates.{Piece}
use Rattle.lp_form.specs.declared.template.Kind.{Kind}
use Rattle.lp_form.specs.declared.template.Kind.TheVariants as kind
use Rattle.lp_form.specs.declared.template.Slot.{Slot}
use Rattle.lp_form.specs.declared.template.Slot.TheVariants.{Nothing, Prefix, Hole}
use Rattle.lp_spelling.specs.Fillings.{Fills}
use Rattle.lp_spelling.specs.LineReading.{kind_of}

-- a byte, the prefix, a text that fills a hole of a kind, or anything up to the end of the line
pub data Sign : Type 0 where
  byte : ℕ → Sign
  own : Sign
  filled : Kind → Sign
  unknown : Sign

-- of attributes and literals the front is known
abbrev pub kind_signs : Kind → List Sign → List Sign
kind_signs kind.Attribute more = map byte (codes "#![") ++ unknown ∷ []
kind_signs kind.Literal more = map byte (codes "\"") ++ unknown ∷ []
kind_signs k more = filled k ∷ more

abbrev pub slot_signs : List Kind → Slot → List Sign → List Sign
slot_signs kinds Nothing more = more
slot_signs kinds Prefix more = own ∷ more
slot_signs kinds (Hole k) more = if nat_lt k (length kinds) then kind_signs (kind_of kinds k) more else unknown ∷ []

-- the signs of a line
abbrev pub signs : List Kind → List Piece → List Sign
signs kinds [] = []
signs kinds (p ∷ parts) = map byte p.0 ++ slot_signs kinds p.1 (signs kinds parts)

-- a line has these signs
unfoldable pub Shows : List ℕ → List Sign → List ℕ → Type 0
Shows prefix [] line = line ≡ []
Shows prefix (byte b ∷ others) line = (rest : List ℕ) × (line ≡ b ∷ rest) × Shows prefix others rest
Shows prefix (own ∷ others) line = (rest : List ℕ) × (line ≡ prefix ++ rest) × Shows prefix others rest
Shows prefix (filled k ∷ others) line = (text rest : List ℕ) × (line ≡ text ++ rest) × Fills prefix k text × Shows prefix others rest
Shows prefix (unknown ∷ others) line = Unit {0}
