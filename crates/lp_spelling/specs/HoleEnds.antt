-- Where a hole ends: where the rest of the line leaves no choice, else by what its kind holds.
use Rattle.std.specs.Prelude.{ℕ, ◌+◌, ◌-◌, ◌/◌, suc, Bool, true, false, not, ◌&&◌, ◌||◌, ◌==◌, cond, if◌then◌else◌, min, nat_lt, nat_le, nat_eq, List, [], ◌∷◌, length, drop, codes}
use Rattle.std.specs.List.{list_all, prefix_len, starts_with}
use Rattle.lp_form.specs.declared.template.Kind.{Kind}
use Rattle.lp_form.specs.declared.template.Kind.TheVariants as kind
use Rattle.lp_form.specs.declared.template.Slot.{Slot}
use Rattle.lp_form.specs.declared.template.Slot.TheVariants.{Nothing, Prefix, Hole}
use Rattle.lp_form.specs.Templates.{Piece}
use Rattle.lp_spelling.specs.Lines.{slot_text}

abbrev pub is_digit : ℕ → Bool
is_digit b = nat_le 48 b && nat_le b 57

-- a letter, a digit, `_`, or a byte of a character beyond ASCII
abbrev pub is_word : ℕ → Bool
is_word b = is_digit b || ((nat_le 65 b && nat_le b 90) || ((nat_le 97 b && nat_le b 122) || ((b == 95) || nat_le 128 b)))

-- the first place where the text goes on as asked, or its length
unfoldable pub first_at : (List ℕ → Bool) → List ℕ → ℕ
first_at test [] = 0
first_at test (b ∷ t) = cond (test (b ∷ t)) 0 (suc (first_at test t))

-- whether there is such a place
abbrev pub is_somewhere : (List ℕ → Bool) → List ℕ → Bool
is_somewhere test text = nat_lt (first_at test text) (length text)

-- the last such place, or the length
unfoldable pub last_at : (List ℕ → Bool) → List ℕ → ℕ
last_at test [] = 0
last_at test (b ∷ t) = cond (is_somewhere test t) (suc (last_at test t)) (cond (test (b ∷ t)) 0 (suc (length t)))

-- the first place of a text in another, or the other's length
abbrev pub place : List ℕ → List ℕ → ℕ
place sought text = first_at (λ t. starts_with nat_eq t sought) text

-- the second literal text stands in front
abbrev pub second_goes_on : List Piece → List ℕ → Bool
second_goes_on [] text = true
second_goes_on (p ∷ []) text = true
second_goes_on (p ∷ q ∷ ps) text = starts_with nat_eq text q.0

-- what follows the first literal text: the prefix and the second literal text, where the prefix follows
abbrev pub slot_goes_on : List ℕ → Slot → List Piece → List ℕ → Bool
slot_goes_on prefix Nothing parts text = true
slot_goes_on prefix Prefix parts text = starts_with nat_eq text prefix && second_goes_on parts (drop (length prefix) text)
slot_goes_on prefix (Hole k) parts text = true

-- the parts go on in front: a literal text, and, where the prefix follows, the prefix and the next literal text
abbrev pub goes_on : List ℕ → List Piece → List ℕ → Bool
goes_on prefix [] text = length text == 0
goes_on prefix (p ∷ ps) text = starts_with nat_eq text p.0 && slot_goes_on prefix p.1 (p ∷ ps) (drop (length p.0) text)

-- symbols end: a comma stands in front, and no symbol behind it
abbrev pub ends_symbols : List ℕ → List ℕ → Bool
ends_symbols prefix text = starts_with nat_eq text (codes ", ") && not (starts_with nat_eq (drop 2 text) prefix)

-- how many brackets are open after a byte, and whether it closes the last of them
abbrev pub depth_after : ℕ → ℕ → ℕ
depth_after depth b = if b == 40 then depth + 1 else (if b == 41 then depth - 1 else depth)

abbrev pub closes_all : ℕ → ℕ → Bool
closes_all depth b = (b == 41) && nat_le depth 1

-- the place of the bracket that closes all, or the length
unfoldable pub close_at : ℕ → List ℕ → ℕ
close_at depth [] = 0
close_at depth (b ∷ t) = cond (closes_all depth b) 0 (suc (close_at (depth_after depth b) t))

-- how long a visibility in front is: `pub `, or `pub(path) `
abbrev pub path_len : List ℕ → ℕ
path_len text = if nat_lt (close_at 0 text) (length text) then min (close_at 0 text + 2) (length text) else 0

unfoldable pub visibility_len : List ℕ → ℕ
visibility_len text =
    if starts_with nat_eq text (codes "pub ")
    then 4
    else (if starts_with nat_eq text (codes "pub(") then path_len text else 0)

-- how many of n bytes the parts leave for holes that are not known
unfoldable pub left_by : List ℕ → List (List ℕ) → List Piece → ℕ → ℕ
left_by prefix known [] n = n
left_by prefix known (p ∷ parts) n = left_by prefix known parts (n - length p.0 - length (slot_text prefix known p.1))

abbrev pub is_hole : ℕ → Slot → Bool
is_hole k Nothing = false
is_hole k Prefix = false
is_hole k (Hole j) = j == k

-- how often a hole stands in the parts
unfoldable pub times : ℕ → List Piece → ℕ
times k [] = 0
times k (p ∷ parts) = cond (is_hole k p.1) (suc (times k parts)) (times k parts)

-- a slot that is no hole behind this one
abbrev pub is_up_to : ℕ → Slot → Bool
is_up_to k Nothing = true
is_up_to k Prefix = true
is_up_to k (Hole j) = nat_le j k

-- nothing else is left to be told in the parts
unfoldable pub is_alone : ℕ → List Piece → Bool
is_alone k parts = list_all (λ p. is_up_to k p.1) parts

-- how long a hole is by what its kind holds
unfoldable pub kind_len : List ℕ → Kind → List Piece → List ℕ → ℕ
kind_len prefix kind.Name parts text = prefix_len is_word text
kind_len prefix kind.PlainName parts text = prefix_len is_word text
kind_len prefix kind.Escaped parts text = prefix_len is_word text
kind_len prefix kind.Number parts text = prefix_len is_digit text
kind_len prefix kind.NotOne parts text = prefix_len is_digit text
kind_len prefix kind.Visibility parts text = visibility_len text
kind_len prefix kind.Symbols parts text = first_at (ends_symbols prefix) text
kind_len prefix kind.Pattern parts text = last_at (goes_on prefix parts) text
kind_len prefix kind.Patterns parts text = last_at (goes_on prefix parts) text
kind_len prefix kind.Generics parts text = last_at (goes_on prefix parts) text
kind_len prefix _ parts text = first_at (goes_on prefix parts) text

-- how long a hole is in front of a text, before the parts
unfoldable pub hole_len : List ℕ → Kind → ℕ → List Piece → List (List ℕ) → List ℕ → ℕ
hole_len prefix kind k parts known text =
    if is_alone k parts
    then left_by prefix known parts (length text) / (1 + times k parts)
    else kind_len prefix kind parts text
