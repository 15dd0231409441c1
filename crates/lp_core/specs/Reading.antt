-- What a value is read as, if it is of the kind that is wanted.
use Rattle.std.specs.Prelude.{ℕ, ℤ, Bool, List, [], ◌∷◌, Option, Some, None}
use Rattle.std.specs.Option.{option_and_then}
use Rattle.lp_repr.specs.declared.values.Loc.{Loc}
use Rattle.lp_driver.specs.Values.{Value, Location, Spanned}
use Rattle.lp_core.specs.declared.value.Tag.{Tag}
use Rattle.lp_core.specs.declared.value.Tag.TheVariants as tag
use Rattle.lp_core.specs.Datum.{Datum, Truth, Index, Number, Parsed, Cell}
use Rattle.lp_core.specs.Val.{Val, Plain, Made, list_of, end, more}

abbrev pub datum : Val → Option Datum
datum (Plain d) = Some d
datum (Made tag vs) = None

-- the tag and the parts
abbrev pub parts_of : Val → Option (Tag × List Val)
parts_of (Plain d) = None
parts_of (Made tag vs) = Some (tag, list_of vs)

-- the parts of a list
abbrev pub parts_in : Tag × List Val → Option (List Val)
parts_in (tag.List, vs) = Some vs
parts_in _ = None

abbrev pub list_parts : Val → Option (List Val)
list_parts v = option_and_then parts_in (parts_of v)

abbrev pub tag_of : Val → Option Tag
tag_of (Plain d) = None
tag_of (Made tag vs) = Some tag

-- the parts, of which an atom has none
abbrev pub parts : Val → List Val
parts (Plain d) = []
parts (Made tag vs) = list_of vs

abbrev pub index_in : Datum → Option ℕ
index_in (Index n) = Some n
index_in _ = None

abbrev pub state_in : Datum → Option ℤ
state_in (Number kind n) = Some n
state_in _ = None

abbrev pub truth_in : Datum → Option Bool
truth_in (Truth b) = Some b
truth_in _ = None

abbrev pub cell_in : Datum → Option ℕ
cell_in (Cell n) = Some n
cell_in _ = None

abbrev pub term_in : Datum → Option Value
term_in (Parsed t) = Some t
term_in _ = None

abbrev pub place_in : Value → Option Loc
place_in (Location l) = Some l
place_in _ = None

abbrev pub index_of : Val → Option ℕ
index_of v = option_and_then index_in (datum v)

abbrev pub state_of : Val → Option ℤ
state_of v = option_and_then state_in (datum v)

abbrev pub truth_of : Val → Option Bool
truth_of v = option_and_then truth_in (datum v)

abbrev pub cell_of : Val → Option ℕ
cell_of v = option_and_then cell_in (datum v)

abbrev pub term_of : Val → Option Value
term_of v = option_and_then term_in (datum v)

abbrev pub location_of : Val → Option Loc
location_of v = option_and_then place_in (term_of v)

-- a value with no parts, with one, and a symbol's value with its span
abbrev pub empty : Tag → Val
empty tag = Made tag end

abbrev pub wrapped : Tag → Val → Val
wrapped tag v = Made tag (more v end)

abbrev pub location : Loc → Val
location l = Plain (Parsed (Location l))

abbrev pub triple : Loc → Val → Loc → Val
triple start v finish = Made tag.Tuple (more (location start) (more v (more (location finish) end)))

abbrev pub spanned_val : Spanned Val → Val
spanned_val x = triple x.0 x.1 x.2

-- an option as a value
abbrev pub option_val : Option Val → Val
option_val None = empty tag.Absent
option_val (Some v) = wrapped tag.Present v

-- the three of a list of three
abbrev pub three : List Val → Option (Val × Val × Val)
three (a ∷ b ∷ c ∷ []) = Some (a, b, c)
three _ = None

abbrev pub one : List Val → Option Val
one (a ∷ []) = Some a
one _ = None

abbrev pub two : List Val → Option (Val × Val)
two (a ∷ b ∷ []) = Some (a, b)
two _ = None

abbrev pub with_ends : Val → Option Loc → Option Loc → Option (Spanned Val)
with_ends v (Some start) (Some finish) = Some (start, v, finish)
with_ends v _ _ = None

abbrev pub span_in : Tag × List Val → Option (Spanned Val)
span_in (tag.Tuple, vs) = option_and_then (λ r. with_ends r.1 (location_of r.0) (location_of r.2)) (three vs)
span_in _ = None

-- the start, the value and the end of a triple of locations and a value
abbrev pub spanned_of : Val → Option (Spanned Val)
spanned_of v = option_and_then span_in (parts_of v)
