-- The lines of an action that calls inlined actions: each is let of a name, and the last one is the value.
use Rattle.std.specs.Prelude.{ℕ, Bool, false, ◌||◌, List, [], ◌∷◌, ◌++◌, codes, Option, Some, None, if◌then◌else◌}
use Rattle.lp_core.specs.declared.expr.Join.TheVariants as join
use Rattle.lp_core.specs.declared.expr.Op.TheVariants as op
use Rattle.lp_core.specs.declared.value.Tag.TheVariants as tag
use Rattle.lp_core.specs.Tree.{Tree, Apply}
use Rattle.lp_form.specs.declared.part.Part.TheVariants as part
use Rattle.lp_view.specs.PartLists.{Form, is_a, hole_of, parts_of, over}
use Rattle.lp_maker.specs.Texts.{begins, after_front, cut_at}
use Rattle.lp_maker.specs.Slots.{Names, after_slots}
use Rattle.lp_maker.specs.Constructs.{stuck, joined, take_slot, tried}
use Rattle.lp_maker.specs.Making.{Making, read_name, read_written, call_named}
use Rattle.lp_bodies.specs.Lines.{Lines, lines_of, with_part, with_let, numbered}

-- `value.0` or `value.2`
abbrev pub side : Tree → List ℕ → Tree
side value place = if begins (codes "0") place then Apply (op.Part 0) value else (if begins (codes "2") place then Apply (op.Part 2) value else stuck)

abbrev pub dotted : List ℕ → Names → Option (List ℕ × List ℕ) → Tree
dotted prefix names None = stuck
dotted prefix names (Some cut) = side (read_written prefix names cut.0) cut.1

abbrev pub pointed : List ℕ → Names → List ℕ → Option (List ℕ) → Tree
pointed prefix names text None = dotted prefix names (cut_at (codes ".") text)
pointed prefix names text (Some name) = read_written prefix names name

-- a side of a span: `~j.0`, `~j.2`, `*~lookbehind` or `*~lookahead`
abbrev pub place_value : List ℕ → Names → List ℕ → Tree
place_value prefix names text = pointed prefix names text (after_front (codes "*") text)

abbrev pub span_start : List ℕ → Form → Lines → Lines
span_start prefix line l = with_let (numbered (codes "~start") line) (place_value prefix l.names (hole_of 1 line)) l

abbrev pub span_end : List ℕ → Form → Lines → Lines
span_end prefix line l = with_let (numbered (codes "~end") line) (place_value prefix l.names (hole_of 2 line)) l

-- `let ~startN = ..; let ~endN = ..;`
abbrev pub inline_span : List ℕ → Form → Lines → Lines
inline_span prefix line l = span_end prefix line (span_start prefix line l)

-- a row of a call is an argument, or it is none
abbrev pub argument_row : List ℕ → Names → List Tree → Form → List Tree
argument_row prefix names args row = if is_a part.ArgumentRow row then args ++ read_written prefix names (hole_of 0 row) ∷ [] else args

abbrev pub call_arguments : List ℕ → Names → Form → List Tree
call_arguments prefix names line = over (argument_row prefix names) [] (parts_of line)

-- a call of an action function, whose number stands in this hole
abbrev pub action_call : ℕ → Making → Names → Form → Tree
action_call hole m names line = call_named (codes "super::action" ++ hole_of hole line) (call_arguments m.prefix names line) m

-- whether a call ends with `?`
abbrev pub ends_so : Bool → Form → Bool
ends_so found row = found || is_a part.CallEndFallible row

abbrev pub is_tried : Form → Bool
is_tried line = over ends_so false (parts_of line)

-- what an inlined action answers
abbrev pub inlined_value : Making → Names → Form → Tree
inlined_value m names line = if is_tried line then tried names.next (action_call 1 m names line) else action_call 1 m names line

abbrev pub inlined_names : Names → Form → Names
inlined_names names line = if is_tried line then after_slots 1 names else names

-- the value in a slot, with the span of the line's number
abbrev pub spanned : ℕ → Form → Names → Tree
spanned slot line names =
    joined (join.Make tag.Tuple) (read_name names (numbered (codes "~start") line) ∷ take_slot slot ∷ read_name names (numbered (codes "~end") line) ∷ [])

abbrev pub temp_value : Making → Form → Lines → Lines
temp_value m line l = with_let (numbered (codes "~temp") line) (inlined_value m l.names line) (lines_of (inlined_names l.names line) l.parts)

abbrev pub temp_triple : ℕ → Form → Lines → Lines
temp_triple slot line l = with_let (numbered (codes "~temp") line) (spanned slot line l.names) l

-- `let ~tempN = ..; let ~tempN = (~startN, ~tempN, ~endN);`
abbrev pub inline_call : Making → Form → Lines → Lines
inline_call m line l = temp_triple (inlined_names l.names line).next line (temp_value m line l)

abbrev pub is_inline_call : Form → Bool
is_inline_call line = is_a part.InlineCall line || is_a part.InlineCallTyped line

abbrev pub is_outer_call : Form → Bool
is_outer_call line = is_a part.OuterCall line || is_a part.OuterCallTyped line

abbrev pub is_wrapped_call : Form → Bool
is_wrapped_call line = is_a part.OuterCallOk line || is_a part.OuterCallOkTyped line

-- the value of the whole action
abbrev pub outer_line : Making → Names → Form → Tree
outer_line m names line =
    if is_outer_call line then action_call 0 m names line else (if is_wrapped_call line then Apply (op.Wrap tag.Success) (action_call 0 m names line) else stuck)

-- a line of the body
abbrev pub inline_line : Making → Lines → Form → Lines
inline_line m l line =
    if is_a part.InlineSpan line then inline_span m.prefix line l else (if is_inline_call line then inline_call m line l else with_part (outer_line m l.names line) l)

abbrev pub inline_lines : Making → Names → Form → Lines
inline_lines m names body = over (inline_line m) (lines_of names []) (parts_of body)
