-- The reductions of recursive ascent.
use Rattle.std.specs.Prelude.{◌||◌, Bool, true, false, [], ◌∷◌, ◌++◌, length, codes, Some, if◌then◌else◌}
use Rattle.lp_ascent_bodies.specs.declared.ascent.Lines.{Lines as Shared}
use Rattle.lp_core.specs.declared.expr.Function.{Function}
use Rattle.lp_core.specs.declared.expr.Join.TheVariants as join
use Rattle.lp_core.specs.declared.expr.Op.TheVariants as op
use Rattle.lp_core.specs.declared.value.Tag.{Tag}
use Rattle.lp_core.specs.declared.value.Tag.TheVariants as tag
use Rattle.lp_core.specs.Tree.{Tree, Apply}
use Rattle.lp_form.specs.declared.part.Part.TheVariants as part
use Rattle.lp_view.specs.PartLists.{Form, is_a, hole_of, parts_of, over}
use Rattle.lp_maker.specs.Slots.{Names, after_slots}
use Rattle.lp_maker.specs.Constructs.{read, take_slot, write, joined, call_function, give_back, on_option, tried}
use Rattle.lp_maker.specs.Making.{Making, with_function, with_variant, variant_tag, read_name, read_all, call_named}
use Rattle.lp_bodies.specs.Lines.{Lines, lines_of, with_part, with_let, numbered}
use Rattle.lp_bodies.specs.Source.{function, default_location}
use Rattle.lp_bodies.specs.Reductions.{Work, work_of, Done, block_done, span_popped, span_at, part_function}

-- what the name of the line's number holds
abbrev pub top_slot : Form → Names → Tree
top_slot line names = read_name names (numbered (codes "~sym") line)

-- `let ~symj = ~symj.take().unwrap();`
abbrev pub take_line : Form → Lines → Lines
take_line line l = with_let (numbered (codes "~sym") line) (Apply op.TakeOut (top_slot line l.names)) l

-- `|x| x.as_ref().unwrap().2`
abbrev pub inner_function : Function
inner_function = function 1 0 (Apply (op.Part 2) (Apply op.ReadIn (read 0)))

abbrev pub with_start : Making → Making
with_start m = with_function (Some (part_function 0)) m

-- where the span begins without a lookahead: at the end of the top slot, or at the default
abbrev pub bottom : Making → Form → Names → Tree
bottom m line names =
    if is_a part.AscentFixed line || is_a part.AscentOptional line then call_function (length m.functions) (top_slot line names ∷ []) else default_location

abbrev pub with_bottom : Form → Making → Making
with_bottom line m =
    if is_a part.AscentFixed line then with_function (Some (part_function 2)) m else (if is_a part.AscentOptional line then with_function (Some inner_function) m else m)

-- the lookahead's start, else the bottom
abbrev pub lookahead_start : Making → Shared → Form → Names → Tree
lookahead_start m shared line names =
    on_option (read shared.lookahead) names.next (bottom (with_start m) line (after_slots 1 names)) (call_function (length m.functions) (take_slot names.next ∷ []))

abbrev pub with_lookahead_start : Form → Making → Making
with_lookahead_start line m = with_bottom line (with_start m)

abbrev pub bottom_line : Making → Shared → Form → Lines → Lines
bottom_line m shared line l = span_at (lookahead_start m shared line l.names) (lines_of (after_slots 1 l.names) l.parts)

abbrev pub ascent_call : Making → Form → Names → Tree
ascent_call m line names = call_named (codes "super::action" ++ hole_of 0 line) (read_all m.prefix names (hole_of 2 line)) m

abbrev pub ascent_value : Making → Form → Names → Tree
ascent_value m line names = if is_a part.AscentCall line then ascent_call m line names else tried names.next (ascent_call m line names)

abbrev pub ascent_names : Form → Names → Names
ascent_names line names = if is_a part.AscentCall line then names else after_slots 1 names

-- `let ~nt = ..;`
abbrev pub ascent_call_line : Making → Form → Lines → Lines
ascent_call_line m line l = with_let (codes "~nt") (ascent_value m line l.names) (lines_of (ascent_names line l.names) l.parts)

abbrev pub is_bottom : Form → Bool
is_bottom line = is_a part.AscentFixed line || (is_a part.AscentOptional line || is_a part.AscentBottom line)

abbrev pub is_ascent_call : Form → Bool
is_ascent_call line = is_a part.AscentCall line || is_a part.AscentCallFallible line

-- a line that makes nothing but lines
abbrev pub quiet_line : Making → Form → Lines → Lines
quiet_line m line l =
    if is_a part.TakeLine line then take_line line l else (if is_a part.AscentPopped line then span_popped line l else (if is_ascent_call line then ascent_call_line m line l else l))

-- a line of a reduction
abbrev pub ascent_line : Shared → Work → Form → Work
ascent_line shared w line =
    if is_bottom line then work_of (bottom_line w.made shared line w.lines) (with_lookahead_start line w.made) else work_of (quiet_line w.made line w.lines) w.made

abbrev pub ascent_lines : Shared → Making → Names → Form → Work
ascent_lines shared m names form = over (ascent_line shared) (work_of (lines_of names []) m) (parts_of form)

abbrev pub return_row : Bool → Form → Bool
return_row found line = found || is_a part.ReturnLine line

-- whether the lines end with a return
abbrev pub returns : Form → Bool
returns form = over return_row false (parts_of form)

-- `(~lookahead, ~Nonterminal::..((~start, ~nt, ~end)))`
abbrev pub made_value : Tag → Names → Tree
made_value variant names =
    joined (join.Make tag.Tuple) (read_name names (codes "~lookahead") ∷ Apply (op.Wrap variant) (joined (join.Make tag.Tuple) (read_name names (codes "~start") ∷ read_name names (codes "~nt") ∷ read_name names (codes "~end") ∷ [])) ∷ [])

-- `~result = ..;`
abbrev pub made_line : Shared → Tag → Lines → Lines
made_line shared variant l = with_part (write shared.made (made_value variant l.names)) l

-- `return Ok(~result);`
abbrev pub give_made : Shared → Tree
give_made shared = give_back (Apply (op.Wrap tag.Success) (read shared.made))

abbrev pub return_line : Shared → Bool → Lines → Lines
return_line shared true l = with_part (give_made shared) l
return_line shared false l = l

-- what is made of the reduced symbol after the lines, and the return
abbrev pub with_made : Shared → Form → Work → Work
with_made shared form w =
    work_of (return_line shared (returns form) (made_line shared (variant_tag (hole_of 0 form) w.made) w.lines)) (with_variant (hole_of 0 form) w.made)

-- a reduction, in a block of its own
abbrev pub ascent_reduce : Shared → Making → Names → Form → Done
ascent_reduce shared m names form = block_done (length names.known) (with_made shared form (ascent_lines shared m names form))
