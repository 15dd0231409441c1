-- Reading a line from left to right, by the parts of its template.
use denote.Ref.{Bor}
use Rattle.std.specs.Prelude.{◌≡◌, ℕ, ◌<◌, ◌≤◌, Bool, true, false, ◌==◌, if◌then◌else◌, nat_lt, nat_eq, List, [], ◌∷◌, ◌++◌, length, get_or, take, drop, Option, Some, None}
use Rattle.std.specs.List.{starts_with}
use Rattle.lp_form.specs.declared.template.Kind.{Kind}
use Rattle.lp_form.specs.declared.template.Kind.TheVariants as kind
use Rattle.lp_form.specs.declared.template.Slot.{Slot}
use Rattle.lp_form.specs.declared.template.Slot.TheVariants.{Nothing, Prefix, Hole}
use Rattle.lp_form.specs.Templates.{Piece}
use Rattle.lp_spelling.specs.HoleEnds.{hole_len}
use Rattle.lp_spelling.specs.Fillings.{Fills}

infixl 10 ◌>>=◌
abbrev pub ◌>>=◌ : {A B : Type 0} → Option A → (A → Option B) → Option B
None >>= f = None
(Some x) >>= f = f x

-- what follows the front, if the text begins with it
unfoldable pub after : List ℕ → List ℕ → Option (List ℕ)
after front text = if starts_with nat_eq text front then Some (drop (length front) text) else None

-- what a hole holds, by its number
abbrev pub kind_of : List Kind → ℕ → Kind
kind_of kinds k = get_or kinds k kind.Text

-- a hole that is not known yet takes so many bytes
abbrev pub cut_at : ℕ → List (List ℕ) → List ℕ → Option (List (List ℕ) × List ℕ)
cut_at n known text = Some (known ++ take n text ∷ [], drop n text)

-- the next hole, in front of a text, before the parts
unfoldable pub new_at : List ℕ → List Kind → ℕ → List Piece → List (List ℕ) → List ℕ → Option (List (List ℕ) × List ℕ)
new_at prefix kinds k parts known text = cut_at (hole_len prefix (kind_of kinds k) k parts known text) known text

-- what is known after a slot, and the text behind it: holes are told in order
unfoldable pub slot_at : List ℕ → List Kind → Slot → List Piece → List (List ℕ) → List ℕ → Option (List (List ℕ) × List ℕ)
slot_at prefix kinds Nothing parts known text = Some (known, text)
slot_at prefix kinds Prefix parts known text = after prefix text >>= λ rest. Some (known, rest)
slot_at prefix kinds (Hole k) parts known text =
    if nat_lt k (length known)
    then (after (get_or known k []) text >>= λ rest. Some (known, rest))
    else (if nat_lt (length known) k then None else new_at prefix kinds k parts known text)

-- what is known after a literal text and its slot, and the text behind them
abbrev pub part_at : List ℕ → List Kind → Piece → List Piece → List (List ℕ) → List ℕ → Option (List (List ℕ) × List ℕ)
part_at prefix kinds p parts known text = after p.0 text >>= λ rest. slot_at prefix kinds p.1 parts known rest

-- what is known after a line
unfoldable pub line_at : List ℕ → List Kind → List Piece → List (List ℕ) → List ℕ → Option (List (List ℕ))
line_at prefix kinds [] known text = if length text == 0 then Some known else None
line_at prefix kinds (p ∷ parts) known text = part_at prefix kinds p parts known text >>= λ x. line_at prefix kinds parts x.0 x.1

-- each hole from the n-th on holds what it may
abbrev pub AllFill : List ℕ → List Kind → ℕ → List (List ℕ) → Type 0
AllFill prefix kinds n holes = (k : ℕ) → n ≤ k → k < length holes → Fills prefix (kind_of kinds k) (get_or holes k [])

-- an answer on a slot: what is known and left, or that what is read would not fill its hole
abbrev pub ReadsSlot : List ℕ → List Kind → List (List ℕ) → List (List ℕ) → Option (List (List ℕ) × List ℕ) → Option (Bor (List ℕ)) → Type 0
ReadsSlot prefix kinds old new read None = (x : List (List ℕ) × List ℕ) → read ≡ Some x → AllFill prefix kinds (length old) x.0 → ⊥
ReadsSlot prefix kinds old new read (Some rest) = (read ≡ Some (new, rest.now)) × AllFill prefix kinds (length old) new

-- an answer on a line
abbrev pub ReadsLine : List ℕ → List Kind → List (List ℕ) → List (List ℕ) → Option (List (List ℕ)) → Bool → Type 0
ReadsLine prefix kinds old new read false = (holes : List (List ℕ)) → read ≡ Some holes → AllFill prefix kinds (length old) holes → ⊥
ReadsLine prefix kinds old new read true = (read ≡ Some new) × AllFill prefix kinds (length old) new
