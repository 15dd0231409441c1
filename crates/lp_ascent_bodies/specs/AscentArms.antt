-- The arms of a state function's match on the lookahead: shifts and reductions.
use Rattle.std.specs.Prelude.{ℕ, ◌+◌, ◌||◌, Bool, List, [], ◌∷◌, ◌++◌, length, codes, Option, Some, None, slice_get, if◌then◌else◌}
use Rattle.lp_ascent_bodies.specs.declared.ascent.Lines.{Lines as Shared}
use Rattle.lp_core.specs.declared.expr.Case.{Case}
use Rattle.lp_core.specs.declared.expr.Join.TheVariants as join
use Rattle.lp_core.specs.declared.expr.Op.TheVariants as op
use Rattle.lp_core.specs.declared.expr.Place.TheVariants as place
use Rattle.lp_core.specs.declared.expr.Test.TheVariants as test
use Rattle.lp_core.specs.declared.value.Tag.TheVariants as tag
use Rattle.lp_core.specs.Tree.{Tree, Apply}
use Rattle.lp_form.specs.declared.part.Part.TheVariants as part
use Rattle.lp_view.specs.PartLists.{Form, is_a, hole_of, parts_of, over, first_that}
use Rattle.lp_maker.specs.Patterns.{form_of}
use Rattle.lp_maker.specs.Slots.{Names, after_slots, cut_to}
use Rattle.lp_maker.specs.Texts.{pieces}
use Rattle.lp_maker.specs.Constructs.{stuck, read, joined, one_after_another}
use Rattle.lp_maker.specs.Making.{Making, with_text}
use Rattle.lp_bodies.specs.Arms.{Gathered, with_case, with_body}
use Rattle.lp_bodies.specs.Lines.{Lines, lines_of, with_part, with_let}
use Rattle.lp_bodies.specs.Reductions.{Done, done_of}
use Rattle.lp_bodies.specs.Tables.{Reading, reading_of, captured}
use Rattle.lp_ascent_bodies.specs.AscentReductions.{ascent_reduce}
use Rattle.lp_ascent_bodies.specs.AscentMoves.{found_transition}

-- the names, the arms so far, and what was made
pub record Arming : Type 0 where
  pub names : Names
  pub arms : Gathered
  pub made : Making

abbrev pub arming_of : Names → Gathered → Making → Arming
arming_of names arms made = record { names = names; arms = arms; made = made }

-- a body, with the names that it leaves
abbrev pub done_arm : Gathered → Done → Arming
done_arm arms d = arming_of d.names (with_body d.value arms) d.made

-- a block of lines as a body, whose names end with it
abbrev pub block_arm : ℕ → Lines → Reading → Arming
block_arm mark l s = arming_of (cut_to mark l.names) (with_body (one_after_another l.parts) s.arms) s.made

-- a test of the token inside for a form, which leads to a body
abbrev pub token_test : ℕ → ℕ → Case
token_test form body = record { place = place.TokenInside; test = test.Form form; body = body }

abbrev pub with_token_case : ℕ → Gathered → Gathered
with_token_case form a = record a { cases = a.cases ++ token_test form (length a.bodies) ∷ [] }

-- a pattern's form is a text, by whose number the token is tested; the test leads to the next body
abbrev pub token_case : List ℕ → Reading → Reading
token_case pattern s =
    reading_of (with_token_case (length s.made.texts) s.arms) (with_text (form_of s.made.prefix pattern) s.made)

-- a test for the end of the tokens, which leads to the next body
abbrev pub end_case : Reading → Reading
end_case s = reading_of (with_case (test.Is tag.Absent) s.arms) s.made

-- what is shifted of the token in a slot: the whole, or what its names capture
abbrev pub shift_value : List ℕ → ℕ → Form → Tree
shift_value prefix token line =
    if is_a part.ShiftWhole line then read token else captured prefix token (hole_of 0 line) (pieces (codes ", ") (hole_of 2 line))

-- `(~loc1, .., ~loc2)`, where the lookahead's parts stand in three slots from this one on
abbrev pub shifted : List ℕ → ℕ → Form → Tree
shifted prefix start line =
    joined (join.Make tag.Tuple) (read start ∷ shift_value prefix (start + 1) line ∷ read (start + 2) ∷ [])

-- puts the lookahead's parts into three slots
abbrev pub token_parts : Shared → Lines → Lines
token_parts shared l =
    with_part (Apply (op.Parts l.names.next 3) (Apply (op.Part 0) (read shared.lookahead))) (lines_of (after_slots 3 l.names) l.parts)

-- `let ~symn = (~loc1, .., ~loc2);`
abbrev pub symbol_line : List ℕ → ℕ → Form → Lines → Lines
symbol_line prefix start line l = with_let (codes "~sym" ++ hole_of 1 line) (shifted prefix start line) l

abbrev pub shift_lines : Making → Shared → Names → Form → Lines
shift_lines m shared names line =
    found_transition m shared (slice_get (parts_of line) 0) (symbol_line m.prefix names.next line (token_parts shared (lines_of names [])))

-- the shift of a terminal
abbrev pub shift_arm : Shared → Form → Arming → Arming
shift_arm shared line a =
    block_arm (length a.names.known) (shift_lines a.made shared a.names line) (token_case (hole_of 0 line) (reading_of a.arms a.made))

abbrev pub is_token : Form → Bool
is_token row = is_a part.TokenRow row || is_a part.LastToken row

-- a row may be a further token, or the end
abbrev pub case_row : Reading → Form → Reading
case_row s row = if is_token row then token_case (hole_of 0 row) s else (if is_a part.LastEnd row then end_case s else s)

abbrev pub first_case : Form → Reading → Reading
first_case line s = if is_a part.ReduceEnd line then end_case s else token_case (hole_of 0 line) s

-- the tests for the tokens of a reduction
abbrev pub reduce_cases : Form → Reading → Reading
reduce_cases line s = over case_row (first_case line s) (parts_of line)

-- the lines of a reduction below its arm
abbrev pub lines_below : Form → Option Form
lines_below line = first_that (is_a part.ReduceLines) (parts_of line)

abbrev pub found_reduce : Shared → Making → Names → Option Form → Done
found_reduce shared m names None = done_of stuck names m
found_reduce shared m names (Some lines) = ascent_reduce shared m names lines

abbrev pub reduce_under : Shared → Form → Names → Reading → Arming
reduce_under shared line names s = done_arm s.arms (found_reduce shared s.made names (lines_below line))

-- a reduction, on its tokens
abbrev pub reduce_arm : Shared → Form → Arming → Arming
reduce_arm shared line a = reduce_under shared line a.names (reduce_cases line (reading_of a.arms a.made))
