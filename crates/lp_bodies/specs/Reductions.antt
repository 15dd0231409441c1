-- Reductions of table-driven code.
use Rattle.std.specs.Prelude.{ℕ, ◌+◌, ◌||◌, Bool, List, [], ◌∷◌, ◌++◌, length, codes, Option, Some, None, slice_get, if◌then◌else◌}
use Rattle.lp_core.specs.declared.expr.Function.{Function}
use Rattle.lp_core.specs.declared.expr.Join.TheVariants as join
use Rattle.lp_core.specs.declared.expr.Op.TheVariants as op
use Rattle.lp_core.specs.declared.expr.Test.TheVariants as test
use Rattle.lp_core.specs.declared.value.StateType.{StateType}
use Rattle.lp_core.specs.declared.value.Tag.{Tag}
use Rattle.lp_core.specs.declared.value.Tag.TheVariants as tag
use Rattle.lp_core.specs.Tree.{Tree, Apply, Match, trees_of}
use Rattle.lp_form.specs.declared.part.Part.TheVariants as part
use Rattle.lp_view.specs.PartLists.{Form, is_a, hole_of, parts_of, over}
use Rattle.lp_maker.specs.Numbers.{number_of}
use Rattle.lp_maker.specs.Texts.{after_front, without_end, state_type_of}
use Rattle.lp_maker.specs.Slots.{Names, no_names, after_slots, cut_to}
use Rattle.lp_maker.specs.Constructs.{stuck, read, take_slot, write, joined, call_function, one_after_another, give_back, here, on_option, on_result, absent, index, function_of}
use Rattle.lp_maker.specs.Making.{Making, with_function, with_variant, variant_tag, read_name, read_all, call_named, parameters}
use Rattle.lp_bodies.specs.Lines.{Lines, lines_of, with_part, with_let, numbered}
use Rattle.lp_bodies.specs.Arms.{Gathered, no_arms, with_header, with_number_case, with_body, with_names, choice}
use Rattle.lp_bodies.specs.Source.{function, default_location}

-- lines, and what was made so far
pub record Work : Type 0 where
  pub lines : Lines
  pub made : Making

abbrev pub work_of : Lines → Making → Work
work_of lines made = record { lines = lines; made = made }

abbrev pub symbols : Names → Tree
symbols names = read_name names (codes "~symbols")

-- `assert!(~symbols.len() >= n);`
abbrev pub assert_line : Form → Lines → Lines
assert_line line l = with_part (Apply op.Assert (joined join.AtLeast (Apply op.Length (symbols l.names) ∷ index (number_of (hole_of 0 line)) ∷ []))) l

-- `let ~symN = ~pop_V(~symbols);`
abbrev pub pop_line : Making → Form → Lines → Lines
pop_line m line l = with_let (numbered (codes "~sym") line) (call_named (codes "pop_" ++ hole_of 1 line) (symbols l.names ∷ []) m) l

-- a side of the symbol of this number
abbrev pub symbol_side : ℕ → List ℕ → Names → Tree
symbol_side place number names = Apply (op.Part place) (read_name names (codes "~sym" ++ number))

abbrev pub popped_start : Form → Lines → Lines
popped_start line l = with_let (codes "~start") (symbol_side 0 (hole_of 0 line) l.names) l

abbrev pub popped_end : Form → Lines → Lines
popped_end line l = with_let (codes "~end") (symbol_side 2 (hole_of 1 line) l.names) l

-- `let ~start = ~symi.0.clone(); let ~end = ~symj.2.clone();`
abbrev pub span_popped : Form → Lines → Lines
span_popped line l = popped_end line (popped_start line l)

-- the start and the end are one place
abbrev pub span_at : Tree → Lines → Lines
span_at value l = with_let (codes "~end") (read l.names.next) (with_let (codes "~start") value l)

-- `|x| x.n`
abbrev pub part_function : ℕ → Function
part_function place = function 1 0 (Apply (op.Part place) (read 0))

-- `|| ~symbols.last().map(|x| x.2)`, where the closure of `map` has this number
abbrev pub last_end_function : ℕ → Function
last_end_function number =
    function 1 1 (on_option (Apply op.Last (read 0)) 1 absent (Apply (op.Wrap tag.Present) (call_function number (read 1 ∷ []))))

abbrev pub with_last_end : Making → Making
with_last_end m = with_function (Some (last_end_function (length m.functions))) (with_function (Some (part_function 2)) m)

-- the number of the function for the end of the last symbol
abbrev pub last_end_number : Making → ℕ
last_end_number m = length (with_function (Some (part_function 2)) m).functions

-- the lookahead's start, else the end of the last symbol, else the default
abbrev pub empty_place : ℕ → ℕ → Names → Tree
empty_place number slot names =
    on_option (read_name names (codes "~lookahead_start")) slot (on_option (call_function number (symbols names ∷ [])) slot default_location (read slot)) (read slot)

abbrev pub span_empty : Making → Lines → Lines
span_empty m l = span_at (empty_place (last_end_number m) l.names.next l.names) (lines_of (after_slots 1 l.names) l.parts)

-- the call of the action of a line
abbrev pub reduced_call : Making → Form → Names → Tree
reduced_call m line names = call_named (codes "super::action" ++ hole_of 0 line) (read_all m.prefix names (hole_of 2 line)) m

-- a value, or the return of its error
abbrev pub checked : ℕ → Tree → Tree
checked slot call =
    on_result call slot (take_slot slot) (give_back (Apply (op.Wrap tag.Present) (Apply (op.Wrap tag.Failure) (take_slot slot))))

abbrev pub called_value : Making → Form → Names → Tree
called_value m line names = if is_a part.CallPlain line then reduced_call m line names else checked names.next (reduced_call m line names)

abbrev pub called_names : Form → Names → Names
called_names line names = if is_a part.CallPlain line then names else after_slots 1 names

-- `let ~nt = ..;`
abbrev pub call_line : Making → Form → Lines → Lines
call_line m line l = with_let (codes "~nt") (called_value m line l.names) (lines_of (called_names line l.names) l.parts)

-- `return Some(Ok(~nt));`
abbrev pub start_line : Lines → Lines
start_line l = with_part (give_back (Apply (op.Wrap tag.Present) (Apply (op.Wrap tag.Success) (read_name l.names (codes "~nt"))))) l

-- `(~start, ~Symbol::V(~nt), ~end)`
abbrev pub symbol_triple : Tag → Names → Tree
symbol_triple variant names =
    joined (join.Make tag.Tuple) (read_name names (codes "~start") ∷ Apply (op.Wrap variant) (read_name names (codes "~nt")) ∷ read_name names (codes "~end") ∷ [])

-- how many symbols go, and the nonterminal
abbrev pub outcome : Form → Tree
outcome line = joined (join.Make tag.Tuple) (index (number_of (hole_of 1 line)) ∷ index (number_of (hole_of 2 line)) ∷ [])

-- `~symbols.push(..); (pop, nonterminal)`
abbrev pub push_line : Making → Form → Lines → Lines
push_line m line l = with_part (outcome line) (with_part (joined join.Push (symbols l.names ∷ symbol_triple (variant_tag (hole_of 0 line) m) l.names ∷ [])) l)

abbrev pub is_call : Form → Bool
is_call line = is_a part.CallPlain line || is_a part.CallFallible line

-- a line that makes nothing but lines
abbrev pub quiet_line : Making → Form → Lines → Lines
quiet_line m line l =
    if is_a part.AssertLine line then assert_line line l else (if is_a part.PopLine line then pop_line m line l else (if is_a part.SpanPopped line then span_popped line l else (if is_call line then call_line m line l else (if is_a part.OutcomeStart line then start_line l else with_part stuck l))))

-- a line of a reduction
abbrev pub reduce_line : Work → Form → Work
reduce_line w line =
    if is_a part.SpanEmpty line then work_of (span_empty w.made w.lines) (with_last_end w.made) else (if is_a part.OutcomePush line then work_of (push_line w.made line w.lines) (with_variant (hole_of 0 line) w.made) else work_of (quiet_line w.made line w.lines) w.made)

abbrev pub reduce_lines : Making → Names → Form → Work
reduce_lines m names form = over reduce_line (work_of (lines_of names []) m) (parts_of form)

-- an expression, the names that it leaves, and what is made then
pub record Done : Type 0 where
  pub value : Tree
  pub names : Names
  pub made : Making

abbrev pub done_of : Tree → Names → Making → Done
done_of value names made = record { value = value; names = names; made = made }

-- the lines of a block, whose names end with it
abbrev pub block_done : ℕ → Work → Done
block_done mark w = done_of (one_after_another w.lines.parts) (cut_to mark w.lines.names) w.made

-- the reduction of one production
abbrev pub reduce_body : Making → Names → Form → Done
reduce_body m names form = block_done (length names.known) (reduce_lines m names form)

-- the reduction of one production, if its lines are there
abbrev pub found_body : Making → Names → Option Form → Done
found_body m names None = done_of stuck names m
found_body m names (Some body) = reduce_body m names body

-- a call of the function of one production
abbrev pub arm_call : Making → Names → Form → Tree
arm_call m names row =
    call_named (codes "reduce" ++ hole_of 0 row) (read_all m.prefix names (hole_of 1 row) ++ read_name names (codes "~lookahead_start") ∷ symbols names ∷ []) m

-- what an arm does
abbrev pub reduce_arm : Making → Names → Form → Done
reduce_arm m names row =
    if is_a part.ReduceCallArm row then done_of (arm_call m names row) names m else found_body m names (slice_get (parts_of row) 0)

-- what follows these two texts at the front of another
abbrev pub after_both : List ℕ → Option (List ℕ) → Option (List ℕ)
after_both before None = None
after_both before (Some rest) = after_front before rest

-- the state type in a row, if it is the one of the parameter of states
abbrev pub type_in : ℕ → Option StateType → Option (List ℕ) → Option StateType
type_in after kind None = kind
type_in after kind (Some rest) = state_type_of (without_end after rest)

abbrev pub type_row : List ℕ → List ℕ → ℕ → Option StateType → Form → Option StateType
type_row prefix before after kind row =
    if is_a part.ParameterRow row then type_in after kind (after_both before (after_front prefix (hole_of 0 row))) else kind

-- the state type of the parameter whose row has the prefix and then the first of these in front of it, and only
-- bytes of the second behind it
abbrev pub element_type : List ℕ → List ℕ → ℕ → Form → Option StateType
element_type prefix before after header = over (type_row prefix before after) None (parts_of header)

-- the state type of the parameter that is a list of states
abbrev pub vec_type : List ℕ → Form → Option StateType
vec_type prefix header = element_type prefix (codes "states: &mut alloc::vec::Vec<") 62 header

-- the state type of the parameter that is a slice of states
abbrev pub slice_type : List ℕ → Form → Option StateType
slice_type prefix header = element_type prefix (codes "states: &[") 93 header

-- the arms so far with the state type, and what was made
pub record Arming : Type 0 where
  pub arms : Gathered
  pub kind : Option StateType
  pub made : Making

abbrev pub arming_of : Gathered → Option StateType → Making → Arming
arming_of arms kind made = record { arms = arms; kind = kind; made = made }

abbrev pub is_arm : Form → Bool
is_arm row = is_a part.ReduceCallArm row || is_a part.ReduceBodyArm row

-- a body is that of the next arm, for a printed number
abbrev pub armed : List ℕ → Gathered → Done → Gathered
armed text a d = with_body d.value (with_number_case text (with_names d.names a))

abbrev pub arm_row : Making → Form → Gathered → Gathered
arm_row m row a = armed (hole_of 0 row) a (reduce_arm m a.names row)

abbrev pub with_arm : Form → Gathered → Making → Making
with_arm row a m = (reduce_arm m a.names row).made

-- a row is an arm, or the header
abbrev pub reduce_row : Arming → Form → Arming
reduce_row s row =
    if is_arm row then arming_of (arm_row s.made row s.arms) s.kind (with_arm row s.arms s.made) else arming_of (with_header s.made.prefix row s.arms) (vec_type s.made.prefix row) s.made

abbrev pub reduce_from : Gathered → Making → Form → Arming
reduce_from a m form = over reduce_row (arming_of a None m) (parts_of form)

abbrev pub reduce_rows : Making → Form → Arming
reduce_rows m form = reduce_from no_arms m form

abbrev pub states : Names → Tree
states names = read_name names (codes "~states")

abbrev pub top_of : Option StateType → Tree → Tree
top_of None list = stuck
top_of (Some kind) list = Apply (op.Top kind) list

-- pushes the goto of a state and a nonterminal in slots
abbrev pub push_next : Making → Names → ℕ → ℕ → Tree
push_next m names state nonterminal =
    joined join.Push (states names ∷ call_named (codes "goto") (read state ∷ read nonterminal ∷ []) m ∷ [])

-- takes the states of what was reduced off, and pushes the goto: what goes and the nonterminal stand in the first
-- slots, then the length, then the state
abbrev pub reduced_lines : Making → Names → Option StateType → ℕ → ℕ → ℕ → ℕ → Tree → List Tree
reduced_lines m names kind pop nonterminal length state produced =
    Apply (op.Parts pop 2) produced
    ∷ write length (Apply op.Length (states names))
    ∷ joined join.Truncate (states names ∷ joined join.Subtract (read length ∷ read pop ∷ []) ∷ [])
    ∷ write state (top_of kind (states names))
    ∷ push_next m names state nonterminal
    ∷ absent
    ∷ []

-- the four slots stand one after another, the first one of them here
abbrev pub reduced : Making → Names → Option StateType → ℕ → Tree → Tree
reduced m names kind first produced =
    one_after_another (reduced_lines m names kind first (first + 1) (first + 2) (first + 3) produced)

-- the function of what the arms produce
abbrev pub reduce_with : Making → Option StateType → Gathered → Function
reduce_with m kind a =
    function_of a.params (after_slots 4 (after_slots 1 a.names)) (reduced m a.names kind (after_slots 1 a.names).next (choice (read_name a.names (codes "~action")) stuck a))

-- the reductions by production, and what is made then
abbrev pub reduce_function : Making → Form → Function
reduce_function m form = reduce_with (reduce_rows m form).made (reduce_rows m form).kind (reduce_rows m form).arms

abbrev pub with_reduce : Form → Making → Making
with_reduce form m = (reduce_rows m form).made

abbrev pub function_done : ℕ → Done → Function
function_done params d = function_of params d.names d.value

-- the function of one production under its header
abbrev pub production_under : Making → Form → Option Form → Done
production_under m header body = found_body m (parameters m.prefix header) body

abbrev pub production_function : Making → Option Form → Option Form → Function
production_function m None body = function_of 0 no_names stuck
production_function m (Some header) body = function_done (parameters m.prefix header).next (production_under m header body)

abbrev pub with_production_of : Option Form → Option Form → Making → Making
with_production_of None body m = m
with_production_of (Some header) body m = (production_under m header body).made

-- the function of one production, and what is made then
abbrev pub reduce_fn : Making → Form → Function
reduce_fn m form = production_function m (slice_get (parts_of form) 0) (slice_get (parts_of form) 1)

abbrev pub with_reduce_fn : Form → Making → Making
with_reduce_fn form m = with_production_of (slice_get (parts_of form) 0) (slice_get (parts_of form) 1) m

abbrev pub mismatch : Making → Tree
mismatch m = call_named (codes "symbol_type_mismatch") [] m

-- the popped triple with what its symbol holds: the span stands in the slots 1 and 4, the symbol in 2
abbrev pub pop_match : Making → Tag → Tree
pop_match m variant =
    Match (take_slot 2) 3 (here (test.Is variant) 0 ∷ [])
    (trees_of (one_after_another (Apply (op.Parts 2 1) (take_slot 3) ∷ joined (join.Make tag.Tuple) (take_slot 1 ∷ take_slot 2 ∷ take_slot 4 ∷ []) ∷ []) ∷ mismatch m ∷ []))

abbrev pub pop_lines : Making → Tag → Tree
pop_lines m variant =
    one_after_another (Apply (op.Parts 5 3) (take_slot 1) ∷ write 1 (take_slot 5) ∷ write 2 (take_slot 6) ∷ write 4 (take_slot 7) ∷ pop_match m variant ∷ [])

-- the function that takes a symbol of one variant off
abbrev pub pop_function : Making → Form → Function
pop_function m form = function 1 7 (on_option (Apply op.Pop (read 0)) 1 (mismatch m) (pop_lines m (variant_tag (hole_of 0 form) m)))
