-- The errors of a state: a token, or the end, on which it does nothing.
use Rattle.std.specs.Prelude.{ℕ, zero, suc, ◌+◌, List, [], ◌∷◌, ◌++◌, length, drop, codes, Option, Some, None, slice_get, if◌then◌else◌}
use Rattle.lp_core.specs.declared.expr.Function.{Function}
use Rattle.lp_core.specs.declared.expr.Join.TheVariants as join
use Rattle.lp_core.specs.declared.expr.Op.TheVariants as op
use Rattle.lp_core.specs.declared.value.Tag.TheVariants as tag
use Rattle.lp_core.specs.Tree.{Tree, Apply, If}
use Rattle.lp_form.specs.declared.part.Part.TheVariants as part
use Rattle.lp_view.specs.PartLists.{Form, is_a, parts_of, over}
use Rattle.lp_maker.specs.Slots.{Names, after_slots, bound, cut_to}
use Rattle.lp_maker.specs.Constructs.{stuck, read, take_slot, write, joined, call_function, one_after_another, give_back, on_option}
use Rattle.lp_maker.specs.Making.{Making, with_function, read_name, call_named}
use Rattle.lp_bodies.specs.Reductions.{Done, done_of, part_function, states}
use Rattle.lp_bodies.specs.Source.{function, default_location}
use Rattle.lp_ascent_bodies.specs.AscentReductions.{top_slot}

-- the end of what a cell holds, else what a function of the other cells answers
abbrev pub end_or : ℕ → ℕ → Tree → Tree → List Tree → Tree
end_or end next tested shown others =
    If (Apply op.IsEmpty tested) (call_function next others) (call_function end (Apply op.ReadIn shown ∷ []))

-- the slots after the first, so many
abbrev pub other_slots : ℕ → List Tree
other_slots zero = []
other_slots (suc n) = other_slots n ++ read (n + 1) ∷ []

-- the function of a cell and so many others: the cell's end, else what the next function answers
abbrev pub link_function : ℕ → ℕ → ℕ → Function
link_function end next others = function (others + 1) 0 (end_or end next (read 0) (read 0) (other_slots others))

-- the number of the last function of a chain, and what was made
pub record Chaining : Type 0 where
  pub last : ℕ
  pub made : Making

abbrev pub chaining_of : ℕ → Making → Chaining
chaining_of last made = record { last = last; made = made }

abbrev pub link : ℕ → ℕ → Chaining → Chaining
link end others s = chaining_of (length s.made.functions) (with_function (Some (link_function end s.last others)) s.made)

-- a function for no other cell, for one, and so on
abbrev pub links : ℕ → ℕ → Chaining → Chaining
links end zero s = s
links end (suc n) s = link end n (links end n s)

-- `Default::default` as a function
abbrev pub default_function : Function
default_function = function 0 0 default_location

-- a chain ends in the default
abbrev pub no_links : Making → Chaining
no_links m = chaining_of (length m.functions) (with_function (Some default_function) m)

abbrev pub first_cell : Names → Option Form → Tree
first_cell names None = stuck
first_cell names (Some row) = top_slot row names

abbrev pub cell_row : Names → List Tree → Form → List Tree
cell_row names cells row = cells ++ top_slot row names ∷ []

-- the cells below the topmost one
abbrev pub other_cells : Names → Form → List Tree
other_cells names form = over (cell_row names) [] (drop 1 (parts_of form))

abbrev pub with_end : Making → Making
with_end m = with_function (Some (part_function 2)) m

abbrev pub chained : Making → List Tree → Chaining
chained m others = links (length m.functions) (length others) (no_links (with_end m))

abbrev pub chain_by : Making → Tree → List Tree → Tree
chain_by m top others = end_or (length m.functions) (chained m others).last top top others

-- the end of the topmost cell that holds something, else the default; each function is handed the cells that are left
abbrev pub chain : Making → Names → Form → Tree
chain m names form = chain_by m (first_cell names (slice_get (parts_of form) 0)) (other_cells names form)

abbrev pub with_chain : Names → Form → Making → Making
with_chain names form m = (chained m (other_cells names form)).made

-- where the end of input is: the end of the topmost symbol, or the default
abbrev pub location : Making → Names → Form → Tree
location m names form =
    if is_a part.LocationFixed form then Apply (op.Part 2) (top_slot form names) else (if is_a part.LocationChain form then chain m names form else default_location)

abbrev pub with_location : Names → Form → Making → Making
with_location names form m =
    if is_a part.LocationFixed form then m else (if is_a part.LocationChain form then with_chain names form m else m)

abbrev pub found_location : Making → Names → Option Form → Tree
found_location m names None = stuck
found_location m names (Some form) = location m names form

abbrev pub with_found_location : Names → Option Form → Making → Making
with_found_location names None m = m
with_found_location names (Some form) m = with_location names form m

-- `~expected`, the terminals that the states accept
abbrev pub expected_list : Making → Names → Tree
expected_list m names = call_named (codes "expected") (states names ∷ []) m

-- the return of the error: of the lookahead, or of the end of input
abbrev pub unrecognized : Names → ℕ → ℕ → Tree → Tree
unrecognized names token expected place =
    give_back (Apply (op.Wrap tag.Failure) (on_option (read_name names (codes "~lookahead")) token (joined join.UnrecognizedEof (place ∷ take_slot expected ∷ [])) (joined join.UnrecognizedToken (take_slot token ∷ take_slot expected ∷ []))))

-- the names after `~expected`, and after the slot of the token
abbrev pub list_names : Names → Names
list_names names = bound (codes "~expected") names

abbrev pub error_names : Names → Names
error_names names = after_slots 1 (list_names names)

abbrev pub error_value : Making → Names → Form → Tree
error_value m names form =
    one_after_another (write names.next (expected_list m names) ∷ unrecognized (error_names names) (list_names names).next names.next (found_location m (error_names names) (slice_get (parts_of form) 0)) ∷ [])

abbrev pub with_error : Names → Form → Making → Making
with_error names form m = with_found_location (error_names names) (slice_get (parts_of form) 0) m

-- the error of a state, in a block of its own
abbrev pub expected_error : Making → Names → Form → Done
expected_error m names form = done_of (error_value m names form) (cut_to (length names.known) (error_names names)) (with_error names form m)
