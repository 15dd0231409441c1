-- Texts in the holes of forms, as lists of bytes.
use Rattle.std.specs.Prelude.{ℕ, zero, suc, ◌+◌, ◌||◌, Bool, List, [], ◌∷◌, ◌++◌, length, take, drop, eqb, codes, Option, Some, None, if◌then◌else◌, is_some, slice_index, ◌==◌}
use Rattle.std.specs.List.{starts_with}
use Rattle.std.specs.Option.{option_map, unwrap_or}
use Rattle.std.specs.Str.{bytes_eq}
use Rattle.lp_core.specs.declared.value.StateType.{StateType}
use Rattle.lp_core.specs.declared.value.StateType.TheVariants.{I8, I16, I32}
use Rattle.lp_maker.specs.declared.texts.Bound.{Bound}
use Rattle.lp_maker.specs.declared.texts.Bound.TheVariants as bound

-- whether a text begins with another
abbrev pub begins : List ℕ → List ℕ → Bool
begins front s = starts_with eqb s front

-- what follows a text at the front of another
abbrev pub after_front : List ℕ → List ℕ → Option (List ℕ)
after_front front s = if begins front s then Some (drop (length front) s) else None

-- where a text first stands in another
abbrev pub first_place : List ℕ → List ℕ → Option ℕ
first_place sought [] = if begins sought [] then Some 0 else None
first_place sought (b ∷ bs) = if begins sought (b ∷ bs) then Some 0 else option_map suc (first_place sought bs)

-- what stands before a text of this length at a place, and what stands after it
abbrev pub around : ℕ → List ℕ → ℕ → List ℕ × List ℕ
around len s place = (take place s, drop (place + len) s)

-- a text cut in two at the first separator
abbrev pub cut_at : List ℕ → List ℕ → Option (List ℕ × List ℕ)
cut_at separator s = option_map (around (length separator) s) (first_place separator s)

-- whether a text stands in another
abbrev pub holds : List ℕ → List ℕ → Bool
holds sought s = is_some (cut_at sought s)

-- a piece, if anything stands there
abbrev pub last_piece : List ℕ → List (List ℕ)
last_piece [] = []
last_piece (b ∷ bs) = (b ∷ bs) ∷ []

-- the piece before a cut, and the pieces after it
abbrev pub pieces_around : (List ℕ → List (List ℕ)) → List ℕ → Option (List ℕ × List ℕ) → List (List ℕ)
pieces_around pieces s None = last_piece s
pieces_around pieces s (Some cut) = cut.0 ∷ pieces cut.1

-- the pieces after at most so many cuts
abbrev pub pieces_within : ℕ → List ℕ → List ℕ → List (List ℕ)
pieces_within zero separator s = last_piece s
pieces_within (suc n) separator s = pieces_around (λ t. pieces_within n separator t) s (cut_at separator s)

-- the pieces between the places where a separator stands; the last one only if it isn't empty
abbrev pub pieces : List ℕ → List ℕ → List (List ℕ)
pieces separator s = pieces_within (length s) separator s

-- a name without `&` before it
abbrev pub bare : List ℕ → List ℕ
bare s = unwrap_or (after_front (codes "&") s) s

abbrev pub with_mark : List ℕ → Option (List ℕ) → List ℕ
with_mark name None = name
with_mark name (Some rest) = codes "~" ++ rest

-- a name with `~` for the prefix
abbrev pub marked : List ℕ → List ℕ → List ℕ
marked prefix name = with_mark name (after_front prefix name)

-- a name as scopes know it: without `&` before it, and with `~` for the prefix
abbrev pub plain : List ℕ → List ℕ → List ℕ
plain prefix s = marked prefix (bare s)

-- where the bytes of this kind at the end of a front of a text begin
abbrev pub end_place : ℕ → List ℕ → ℕ → ℕ
end_place c s zero = 0
end_place c s (suc n) = if slice_index s n == c then end_place c s n else suc n

-- a text without the bytes of this kind at its end
abbrev pub without_end : ℕ → List ℕ → List ℕ
without_end c s = take (end_place c s (length s)) s

-- a printed state type
abbrev pub state_type_of : List ℕ → Option StateType
state_type_of s = if bytes_eq s (codes "i8") then Some I8 else (if bytes_eq s (codes "i16") then Some I16 else (if bytes_eq s (codes "i32") then Some I32 else None))

-- what a parameter row binds: nothing, a triple under no name that forms use, or a name
pub data Binding : Type 0 where
  Nothing : Binding
  Triple : Binding
  Named : List ℕ → Binding

abbrev pub binding : Bound → Binding
binding bound.Nothing = Nothing
binding bound.Triple = Triple
binding (bound.Named name) = Named name.now

-- whether a parameter row has no value
abbrev pub is_idle : List ℕ → Bool
is_idle row = bytes_eq row (codes "&self") || (bytes_eq row (codes "&mut self") || begins (codes "_:") row)

abbrev pub name_before : Option (List ℕ × List ℕ) → Binding
name_before None = Nothing
name_before (Some cut) = Named cut.0

-- what a row binds that has a value
abbrev pub row_binding : List ℕ → Binding
row_binding row = if begins (codes "(") row then Triple else name_before (cut_at (codes ":") row)

-- what a parameter row binds
abbrev pub bound_of : List ℕ → Binding
bound_of row = if is_idle row then Nothing else row_binding row
