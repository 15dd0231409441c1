-- Tests of lines: each hole ends where the parts behind it begin, whatever fills the holes.
use Rattle.std.specs.Prelude.{ℕ, Bool, true, false, not, ◌&&◌, ◌||◌, ◌==◌, nat_lt, List, [], ◌∷◌, length, codes}
use Rattle.std.specs.List.{list_all}
use Rattle.std.specs.Str.{bytes_eq}
use Rattle.lp_form.specs.Templates.{Piece, steps_of, holes_of}
use Rattle.lp_form.specs.Templates as template
use Rattle.lp_form.specs.declared.part.Part.{Part}
use Rattle.lp_form.specs.declared.template.Kind.{Kind}
use Rattle.lp_form.specs.declared.template.Kind.TheVariants as kind
use Rattle.lp_form.specs.declared.template.Slot.{Slot}
use Rattle.lp_form.specs.declared.template.Slot.TheVariants.{Nothing, Prefix, Hole}
use Rattle.lp_spelling.specs.HoleEnds.{is_word, is_alone}
use Rattle.lp_spelling.specs.LineReading.{kind_of}
use Rattle.lp_spelling.specs.LineHoles.{known_after, known_in, is_apart}

-- a byte is not in a text
abbrev pub is_without : ℕ → List ℕ → Bool
is_without c text = list_all (λ b. not (b == c)) text

-- the bytes that tell where a hole ends: `&`, `>` and `p`
abbrev pub and_sign : ℕ
and_sign = 38

abbrev pub angle : ℕ
angle = 62

abbrev pub letter_p : ℕ
letter_p = 112

-- the next literal text has the byte
abbrev pub next_has : ℕ → List Piece → Bool
next_has c [] = false
next_has c (p ∷ parts) = not (is_without c p.0)

-- kinds whose texts have no `>`
abbrev pub is_free_kind : Kind → Bool
is_free_kind kind.Name = true
is_free_kind kind.Number = true
is_free_kind kind.Arguments = true
is_free_kind kind.Captures = true
is_free_kind _ = false

abbrev pub is_free_slot : List Kind → Slot → Bool
is_free_slot kinds Nothing = true
is_free_slot kinds Prefix = true
is_free_slot kinds (Hole k) = nat_lt k (length kinds) && is_free_kind (kind_of kinds k)

-- no `>` stands in the parts, whatever fills their holes
abbrev pub are_free : List Kind → List Piece → Bool
are_free kinds [] = true
are_free kinds (p ∷ parts) = is_without angle p.0 && (is_free_slot kinds p.1 && are_free kinds parts)

-- the next literal text has a `>`, and nothing behind it
abbrev pub is_last_angle : List Kind → List Piece → Bool
is_last_angle kinds [] = false
is_last_angle kinds (p ∷ parts) = not (is_without angle p.0) && (is_free_slot kinds p.1 && are_free kinds parts)

-- the next literal text begins with another byte
abbrev pub begins_apart : ℕ → List ℕ → Bool
begins_apart c [] = false
begins_apart c (b ∷ text) = not (b == c)

abbrev pub next_apart : ℕ → List Piece → Bool
next_apart c [] = false
next_apart c (p ∷ parts) = begins_apart c p.0

-- the prefix follows at once, and a literal text behind it
abbrev pub is_prefix_slot : Slot → Bool
is_prefix_slot Prefix = true
is_prefix_slot _ = false

abbrev pub is_prefix_next : List Piece → Bool
is_prefix_next [] = false
is_prefix_next (p ∷ parts) = (length p.0 == 0) && is_prefix_slot p.1

-- a literal text, the prefix, and a literal text follow: the first byte is that of no word, and not among the others
abbrev pub is_mark : List ℕ → Slot → List Piece → Bool
is_mark (c ∷ text) Prefix (q ∷ parts) = not (is_word c) && (is_without c text && is_without c q.0)
is_mark _ _ _ = false

abbrev pub is_marked : List Piece → Bool
is_marked [] = false
is_marked (p ∷ parts) = is_mark p.0 p.1 parts

-- a comma and a hole follow, behind which no word goes on
abbrev pub is_comma : List ℕ → Slot → List Piece → Bool
is_comma text (Hole j) parts = bytes_eq text (codes ", ") && is_apart parts
is_comma _ _ _ = false

abbrev pub is_listed : List Piece → Bool
is_listed [] = false
is_listed (p ∷ parts) = is_comma p.0 p.1 parts

-- a hole of a kind, with another to be told behind it, ends where the parts begin
abbrev pub is_told_by : List Kind → Kind → List Piece → Bool
is_told_by kinds kind.Name parts = is_apart parts
is_told_by kinds kind.PlainName parts = is_apart parts
is_told_by kinds kind.Escaped parts = is_apart parts
is_told_by kinds kind.Number parts = is_apart parts
is_told_by kinds kind.NotOne parts = is_apart parts
is_told_by kinds kind.Visibility parts = next_apart letter_p parts
is_told_by kinds kind.Numbers parts = next_has angle parts
is_told_by kinds kind.Ranges parts = next_has angle parts
is_told_by kinds kind.Parameters parts = next_has and_sign parts || is_prefix_next parts
is_told_by kinds kind.Generics parts = is_last_angle kinds parts
is_told_by kinds kind.Pattern parts = is_last_angle kinds parts
is_told_by kinds kind.Patterns parts = is_last_angle kinds parts
is_told_by kinds kind.Text parts = is_marked parts
is_told_by kinds kind.Symbols parts = is_listed parts
is_told_by kinds _ parts = false

-- a slot is no hole, a hole that is known, or the next one, which is told
abbrev pub is_told : List Kind → ℕ → Slot → List Piece → Bool
is_told kinds n Nothing parts = true
is_told kinds n Prefix parts = true
is_told kinds n (Hole k) parts =
    nat_lt k n || ((k == n) && (nat_lt n (length kinds) && (is_alone n parts || is_told_by kinds (kind_of kinds n) parts)))

-- all slots of a line, where n holes are known before it
abbrev pub are_told : List Kind → ℕ → List Piece → Bool
are_told kinds n [] = true
are_told kinds n (p ∷ parts) = is_told kinds n p.1 parts && are_told kinds (known_after p.1 n) parts

-- all lines of a part
abbrev pub steps_told : List Kind → ℕ → List template.Line → Bool
steps_told kinds n [] = true
steps_told kinds n (s ∷ steps) = are_told kinds n s.1 && steps_told kinds (known_in s.1 n) steps

abbrev pub holes_told : Part → Bool
holes_told p = steps_told (holes_of p) 0 (steps_of p)
