-- Tests of templates' lines, by which what they spell counts.
use Rattle.std.specs.Prelude.{ℕ, Bool, true, false, not, ◌&&◌, ◌==◌, nat_lt, List, [], ◌∷◌, length}
use Rattle.std.specs.Char.{is_whitespace}
use Rattle.std.specs.List.{list_all}
use Rattle.lp_form.specs.Templates.{Piece}
use Rattle.lp_form.specs.declared.template.Kind.{Kind}
use Rattle.lp_form.specs.declared.template.Kind.TheVariants as kind
use Rattle.lp_form.specs.declared.template.Slot.{Slot}
use Rattle.lp_form.specs.declared.template.Slot.TheVariants.{Nothing, Prefix, Hole}
use Rattle.lp_spelling.specs.Counting.{is_text}
use Rattle.lp_spelling.specs.LineReading.{kind_of}

-- an ASCII byte that begins neither a blank nor a comment
abbrev pub is_good : ℕ → Bool
is_good b = nat_lt b 128 && (not (is_whitespace b) && not (b == 47))

-- an ASCII byte that ends no line
abbrev pub is_plain : ℕ → Bool
is_plain b = nat_lt b 128 && is_text b

-- each literal text is plain, and each hole one of so many
abbrev pub is_slot_in : ℕ → Slot → Bool
is_slot_in n Nothing = true
is_slot_in n Prefix = true
is_slot_in n (Hole k) = nat_lt k n

abbrev pub is_plain_line : ℕ → List Piece → Bool
is_plain_line n [] = true
is_plain_line n (p ∷ ps) = list_all is_plain p.0 && (is_slot_in n p.1 && is_plain_line n ps)

-- the next literal text begins so
abbrev pub begins_so : (ℕ → Bool) → List ℕ → Bool
begins_so test [] = false
begins_so test (b ∷ t) = test b

abbrev pub next_so : (ℕ → Bool) → List Piece → Bool
next_so test [] = false
next_so test (p ∷ ps) = begins_so test p.0

-- a hole at the front of a line: one that is never empty, or one that a literal text follows that counts
abbrev pub kind_front : Kind → List Piece → Bool
kind_front kind.Name ps = true
kind_front kind.PlainName ps = true
kind_front kind.Number ps = true
kind_front kind.Numbers ps = true
kind_front kind.Ranges ps = true
kind_front kind.Argument ps = true
kind_front kind.Attribute ps = true
kind_front kind.Escaped ps = next_so is_good ps
kind_front kind.Visibility ps = next_so is_good ps
kind_front kind.Text ps = next_so is_good ps
kind_front kind.Pattern ps = next_so (λ b. not (b == 47)) ps
kind_front kind.Patterns ps = next_so (λ b. not (b == 47)) ps
kind_front _ ps = false

abbrev pub slot_front : List Kind → Slot → List Piece → Bool
slot_front kinds Nothing ps = false
slot_front kinds Prefix ps = true
slot_front kinds (Hole k) ps = kind_front (kind_of kinds k) ps

abbrev pub text_front : List ℕ → Bool → Bool
text_front [] next = next
text_front (b ∷ t) next = is_good b

-- the front of a line that counts
abbrev pub is_front : List Kind → List Piece → Bool
is_front kinds [] = false
is_front kinds (p ∷ ps) = text_front p.0 (slot_front kinds p.1 ps)

-- a line that counts, whatever fills its holes
abbrev pub is_sound_line : List Kind → List Piece → Bool
is_sound_line kinds pieces = is_plain_line (length kinds) pieces && is_front kinds pieces
