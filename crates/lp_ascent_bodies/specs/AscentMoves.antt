-- The lines of a state function before its match, and moves to other states.
use Rattle.std.specs.Prelude.{[], ◌∷◌, ◌++◌, codes, Option, Some, None, if◌then◌else◌}
use Rattle.lp_ascent_bodies.specs.declared.ascent.Lines.{Lines as Shared}
use Rattle.lp_core.specs.declared.expr.Join.TheVariants as join
use Rattle.lp_core.specs.declared.expr.Op.TheVariants as op
use Rattle.lp_core.specs.Tree.{Tree, Apply}
use Rattle.lp_form.specs.declared.part.Part.TheVariants as part
use Rattle.lp_view.specs.PartLists.{Form, is_a, hole_of, parts_of, over}
use Rattle.lp_maker.specs.Numbers.{wide_number_of}
use Rattle.lp_maker.specs.Slots.{Names, after_slots}
use Rattle.lp_maker.specs.Constructs.{stuck, write, joined, tried, state}
use Rattle.lp_maker.specs.Making.{Making, read_name, read_all, call_named}
use Rattle.lp_bodies.specs.Lines.{Lines, lines_of, with_part, with_let, numbered}
use Rattle.lp_bodies.specs.Reductions.{states}
use Rattle.lp_ascent_bodies.specs.AscentReductions.{top_slot, take_line, returns, return_line}

-- `let ~symj = &mut Some(~symj);`
abbrev pub slot_line : Form → Lines → Lines
slot_line line l = with_let (numbered (codes "~sym") line) (Apply op.NewCell (top_slot line l.names)) l

abbrev pub take_row : Lines → Form → Lines
take_row l line = if is_a part.TakeLine line then take_line line l else l

-- the slots that a transition takes out
abbrev pub take_rows : Form → Lines → Lines
take_rows form l = over take_row l (parts_of form)

-- `~states.push(n);`
abbrev pub push_state : Shared → Form → Lines → Lines
push_state shared form l = with_part (joined join.Push (states l.names ∷ state shared.kind (wide_number_of (hole_of 0 form)) ∷ [])) l

-- the call of a state's function
abbrev pub state_call : Making → Form → Names → Tree
state_call m form names =
    call_named (codes "state" ++ hole_of 0 form) ((read_all m.prefix names (hole_of 1 form) ++ read_name names (codes "~tokens") ∷ states names ∷ []) ++ read_all m.prefix names (hole_of 2 form)) m

-- `~result = ~stateN(..)?; ~states.pop();`
abbrev pub call_state : Making → Shared → Form → Lines → Lines
call_state m shared form l =
    lines_of (after_slots 1 l.names) ((l.parts ++ write shared.made (tried l.names.next (state_call m form l.names)) ∷ []) ++ Apply op.Shorten (states l.names) ∷ [])

-- the move to another state, and back
abbrev pub transition : Making → Shared → Form → Lines → Lines
transition m shared form l = return_line shared (returns form) (call_state m shared form (push_state shared form (take_rows form l)))

abbrev pub found_transition : Making → Shared → Option Form → Lines → Lines
found_transition m shared None l = with_part stuck l
found_transition m shared (Some form) l = transition m shared form l
