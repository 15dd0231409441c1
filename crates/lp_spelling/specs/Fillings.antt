-- What may stand in a hole, by its kind.
use Rattle.std.specs.Prelude.{ℕ, zero, suc, ◌+◌, ◌-◌, ◌^◌, Bool, true, false, not, ◌&&◌, ◌||◌, ◌==◌, if◌then◌else◌, nat_lt, nat_eq, List, [], ◌∷◌, length, get_or, take, drop, codes, Option, Some, None, IsTrue, IfSome}
use Rattle.std.specs.List.{list_all, starts_with, ends_with, prefix_len}
use Rattle.std.specs.Str.{IsUtf8, is_utf8, bytes_eq}
use Rattle.std.specs.Str.Parse.{digits_value}
use Rattle.lp_form.specs.declared.template.Kind.{Kind}
use Rattle.lp_form.specs.declared.template.Kind.TheVariants as kind
use Rattle.lp_texts.specs.Identifiers.{is_identifier}
use Rattle.lp_texts.specs.OneLine.{IsOneLine}
use Rattle.lp_spelling.specs.declared.fill.Element.{Element}
use Rattle.lp_spelling.specs.declared.fill.Element.TheVariants as element
use Rattle.lp_spelling.specs.HoleEnds.{is_digit, is_word, place, visibility_len}

-- a text that holds another
unfoldable pub holds : List ℕ → List ℕ → Bool
holds sought text = (length sought == 0) || nat_lt (place sought text) (length text)

-- digits with a 0 in front of others
abbrev pub leads_zero : List ℕ → Bool
leads_zero text = nat_lt 1 (length text) && (get_or text 0 0 == 48)

-- decimal digits, with no 0 in front of others, of a number below 2^64
unfoldable pub is_number : List ℕ → Bool
is_number text =
    nat_lt 0 (length text)
    && (list_all is_digit text && (not (leads_zero text) && nat_lt (digits_value 10 text) (2 ^ 64)))

-- an identifier
abbrev pub is_name : List ℕ → Bool
is_name text = is_utf8 text && is_identifier text

-- an identifier that begins with the prefix
abbrev pub is_own : List ℕ → List ℕ → Bool
is_own prefix text = starts_with nat_eq text prefix && is_name text

-- what is left of a text whose end is off, if it ends so
abbrev pub without_end : List ℕ → List ℕ → List ℕ
without_end end text = take (length text - length end) text

abbrev pub without_front : List ℕ → List ℕ → List ℕ
without_front front text = drop (length front) text

-- a name, or `&` and a name
abbrev pub is_argument : List ℕ → Bool
is_argument text = if starts_with nat_eq text (codes "&") then is_name (without_front (codes "&") text) else is_name text

-- what stands before the first separator, and behind it
abbrev pub part_before : List ℕ → List ℕ → List ℕ
part_before separator text = take (place separator text) text

abbrev pub part_behind : List ℕ → List ℕ → List ℕ
part_behind separator text = drop (place separator text + length separator) text

-- a number, or two with `..=` between
abbrev pub is_range : List ℕ → Bool
is_range text =
    if holds (codes "..=") text
    then is_number (part_before (codes "..=") text) && is_number (part_behind (codes "..=") text)
    else is_number text

-- an element of a joined list
unfoldable pub is_element : List ℕ → Element → List ℕ → Bool
is_element prefix element.Number text = is_number text
is_element prefix element.Range text = is_range text
is_element prefix element.Argument text = is_argument text
is_element prefix element.Own text = is_own prefix text

-- at most n elements, and at least one, with the separator between each two
unfoldable pub joined_within : ℕ → List ℕ → Element → List ℕ → List ℕ → Bool
joined_within zero prefix element separator text = false
joined_within (suc n) prefix element separator text =
    if holds separator text
    then is_element prefix element (part_before separator text) && joined_within n prefix element separator (part_behind separator text)
    else is_element prefix element text

unfoldable pub is_joined : List ℕ → Element → List ℕ → List ℕ → Bool
is_joined prefix element separator text = joined_within (length text) prefix element separator text

-- no line feed, and no `"###`
abbrev pub is_terminal : List ℕ → Bool
is_terminal text = not (holds (codes "\n") text) && not (holds (codes "\"###") text)

-- `#![` to `]` on one line
abbrev pub is_attribute : List ℕ → Bool
is_attribute text = starts_with nat_eq text (codes "#![") && (ends_with nat_eq text (codes "]") && not (holds (codes "\n") text))

-- a string literal without a line feed
abbrev pub is_literal : List ℕ → Bool
is_literal text =
    nat_lt 1 (length text)
    && (starts_with nat_eq text (codes "\"") && (ends_with nat_eq text (codes "\"") && not (holds (codes "\n") text)))

-- `0`, or a number above 1 and ` - 1`
abbrev pub is_many : List ℕ → Bool
is_many count = is_number count && (not (bytes_eq count (codes "0")) && not (bytes_eq count (codes "1")))

abbrev pub is_last : List ℕ → Bool
is_last text = bytes_eq text (codes "0") || (ends_with nat_eq text (codes " - 1") && is_many (without_end (codes " - 1") text))

-- letters of ASCII, digits and `_`
abbrev pub is_escape : ℕ → Bool
is_escape b = is_word b && nat_lt b 128

abbrev pub is_escaped : List ℕ → Bool
is_escaped text = list_all is_escape text

-- names with `, ` after each
abbrev pub are_parameters : List ℕ → List ℕ → Bool
are_parameters prefix text =
    (length text == 0)
    || (ends_with nat_eq text (codes ", ")
    && (is_joined prefix element.Argument (codes ", ") (without_end (codes ", ") text)
    && (not (holds prefix text) && not (holds (codes "&") text))))

-- several captures between parentheses
abbrev pub are_several : List ℕ → List ℕ → Bool
are_several prefix text =
    ends_with nat_eq text (codes ")")
    && (holds (codes ", ") (without_end (codes ")") text) && is_joined prefix element.Own (codes ", ") (without_end (codes ")") text))

-- one capture, or several in parentheses
abbrev pub are_captures : List ℕ → List ℕ → Bool
are_captures prefix text =
    if starts_with nat_eq text (codes "(") then are_several prefix (without_front (codes "(") text) else is_own prefix text

-- `lookbehind` or `lookahead` behind `*` and the prefix
abbrev pub is_look : List ℕ → List ℕ → Bool
is_look prefix text =
    starts_with nat_eq text prefix
    && (bytes_eq (without_front prefix text) (codes "lookbehind") || bytes_eq (without_front prefix text) (codes "lookahead"))

-- a number, `.`, and `0` or `2`, behind the prefix
abbrev pub is_field : List ℕ → Bool
is_field text =
    holds (codes ".") text
    && (is_number (part_before (codes ".") text) && (bytes_eq (part_behind (codes ".") text) (codes "0") || bytes_eq (part_behind (codes ".") text) (codes "2")))

-- a place of a span
abbrev pub is_location : List ℕ → List ℕ → Bool
is_location prefix text =
    if starts_with nat_eq text (codes "*")
    then is_look prefix (without_front (codes "*") text)
    else starts_with nat_eq text prefix && is_field (without_front prefix text)

-- `tok` and a number stand in front, and no word goes on after them
abbrev pub is_numbered : List ℕ → Bool
is_numbered text = nat_lt 0 (prefix_len is_word text) && (prefix_len is_digit text == prefix_len is_word text)

abbrev pub is_capture : List ℕ → Bool
is_capture text = starts_with nat_eq text (codes "tok") && is_numbered (without_front (codes "tok") text)

-- the prefix, at the front of a text, is that of a capture, where this byte stands before it
abbrev pub is_fitting : List ℕ → ℕ → List ℕ → Bool
is_fitting prefix last text = not (starts_with nat_eq text prefix) || (not (is_word last) && is_capture (without_front prefix text))

-- the prefix stands in a text only in the names of captures, apart from other words
unfoldable pub fits_behind : List ℕ → ℕ → List ℕ → Bool
fits_behind prefix last [] = true
fits_behind prefix last (b ∷ t) = is_fitting prefix last (b ∷ t) && fits_behind prefix b t

unfoldable pub are_filled : List ℕ → List ℕ → Bool
are_filled prefix text = fits_behind prefix 0 text

-- nothing, `pub `, or `pub(path) `
abbrev pub is_bare : List ℕ → Bool
is_bare text = (length text == 0) || bytes_eq text (codes "pub ")

abbrev pub is_visibility : List ℕ → Bool
is_visibility text = is_bare text || (starts_with nat_eq text (codes "pub(") && (ends_with nat_eq text (codes " ") && (visibility_len text == length text)))

-- what can be told of a hole's text by its bytes
unfoldable pub has_shape : List ℕ → Kind → List ℕ → Bool
has_shape prefix kind.Name text = is_name text
has_shape prefix kind.PlainName text = is_name text && not (holds prefix text)
has_shape prefix kind.Number text = is_number text
has_shape prefix kind.NotOne text = is_number text && not (bytes_eq text (codes "1"))
has_shape prefix kind.Last text = is_last text
has_shape prefix kind.Escaped text = is_escaped text
has_shape prefix kind.Attribute text = is_attribute text
has_shape prefix kind.Terminal text = is_terminal text
has_shape prefix kind.Literal text = is_literal text
has_shape prefix kind.Visibility text = is_visibility text
has_shape prefix kind.Text text = true
has_shape prefix kind.Generics text = true
has_shape prefix kind.Filled text = are_filled prefix text
has_shape prefix kind.Patterns text = are_filled prefix text
has_shape prefix kind.Pattern text = not (holds prefix text)
has_shape prefix kind.Result text = not (bytes_eq text (codes "()"))
has_shape prefix kind.Numbers text = is_joined prefix element.Number (codes " | ") text
has_shape prefix kind.Ranges text = is_joined prefix element.Range (codes " | ") text
has_shape prefix kind.Arguments text = is_joined prefix element.Argument (codes ", ") text
has_shape prefix kind.Argument text = is_argument text
has_shape prefix kind.Symbols text = is_joined prefix element.Own (codes ", ") text
has_shape prefix kind.Names text = is_joined prefix element.Own (codes ", ") text
has_shape prefix kind.Captures text = are_captures prefix text
has_shape prefix kind.Parameters text = are_parameters prefix text
has_shape prefix kind.Location text = is_location prefix text

-- a text without a blank at its end
abbrev pub without_blank : List ℕ → List ℕ
without_blank text = if ends_with nat_eq text (codes " ") then without_end (codes " ") text else text

-- the part of a hole's text that is a one-line text, where one is asked for
unfoldable pub line_part : Kind → List ℕ → Option (List ℕ)
line_part kind.Visibility text = if is_bare text then None else Some (without_blank text)
line_part kind.Text text = Some text
line_part kind.Generics text = Some text
line_part kind.Filled text = Some text
line_part kind.Patterns text = Some text
line_part kind.Pattern text = Some text
line_part kind.Result text = Some text
line_part _ text = None

-- what may stand in a hole
unfoldable pub Fits : List ℕ → Kind → List ℕ → Type 0
Fits prefix kind text = IsTrue (has_shape prefix kind text) × IfSome (line_part kind text) IsOneLine

-- a text that may stand in a hole
abbrev pub Fills : List ℕ → Kind → List ℕ → Type 0
Fills prefix kind text = IsUtf8 text × Fits prefix kind text
