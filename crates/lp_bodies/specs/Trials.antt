-- What a reduction would do, and whether a stack of states accepts a token.
use Rattle.std.specs.Prelude.{ℕ, ◌+◌, ◌||◌, Bool, true, false, List, [], ◌∷◌, ◌++◌, codes, Option, Some, None, if◌then◌else◌}
use Rattle.lp_core.specs.declared.expr.Function.{Function}
use Rattle.lp_core.specs.declared.expr.Join.TheVariants as join
use Rattle.lp_core.specs.declared.expr.Leaf.TheVariants as leaf
use Rattle.lp_core.specs.declared.expr.Op.{Op}
use Rattle.lp_core.specs.declared.expr.Op.TheVariants as op
use Rattle.lp_core.specs.declared.value.StateType.{StateType}
use Rattle.lp_core.specs.declared.value.Tag.TheVariants as tag
use Rattle.lp_core.specs.Tree.{Tree, Plain, Apply, If, Loop}
use Rattle.lp_form.specs.declared.part.Part.TheVariants as part
use Rattle.lp_view.specs.PartLists.{Form, is_a, hole_of, parts_of, over}
use Rattle.lp_maker.specs.Numbers.{number_of}
use Rattle.lp_maker.specs.Slots.{Names, after_slots, bound}
use Rattle.lp_maker.specs.Constructs.{stuck, read, take_slot, write, joined, one_after_another, give_back, on_tags, on_option, index, function_of}
use Rattle.lp_maker.specs.Making.{Making, read_name, call_named, parameters}
use Rattle.lp_bodies.specs.Arms.{Gathered, no_arms, with_header, with_number_case, with_body, choice_function}
use Rattle.lp_bodies.specs.Reductions.{slice_type, states}

abbrev pub is_simulated : Form → Bool
is_simulated row = is_a part.SimulateAccept row || is_a part.SimulateArm row

-- what an arm answers: that the start is accepted, or how many states go and the nonterminal
abbrev pub simulated : Form → Tree
simulated row =
    if is_a part.SimulateAccept row then Plain (leaf.Empty tag.Accept) else joined (join.Make tag.Reduce) (index (number_of (hole_of 1 row)) ∷ index (number_of (hole_of 2 row)) ∷ [])

abbrev pub simulate_row : List ℕ → Gathered → Form → Gathered
simulate_row prefix a row =
    if is_simulated row then with_body (simulated row) (with_number_case (hole_of 0 row) a) else with_header prefix row a

abbrev pub simulate_rows : List ℕ → Form → Gathered
simulate_rows prefix form = over (simulate_row prefix) no_arms (parts_of form)

abbrev pub simulate_with : Gathered → Function
simulate_with a = choice_function (read_name a.names (codes "~reduce_index")) stuck a

-- what a reduction would do
abbrev pub simulate_function : List ℕ → Form → Function
simulate_function prefix form = simulate_with (simulate_rows prefix form)

-- returns a truth value where a test holds
abbrev pub answer_if : Op → ℕ → Bool → Tree
answer_if test slot answer = If (Apply test (read slot)) (give_back (Plain (leaf.Bool answer))) (Plain (leaf.Empty tag.Tuple))

-- `-(~action + 1)`
abbrev pub production_of : ℕ → Tree
production_of action = Apply op.Negate (Apply op.Successor (read action))

-- a state of a list, by an index, where the state type is one
abbrev pub state_at : Option StateType → ℕ → Tree → Tree
state_at None states place = stuck
state_at (Some kind) states place = joined (join.StateAt kind) (read states ∷ place ∷ [])

-- the state below the end of a list whose length stands in a slot
abbrev pub last_state : Option StateType → ℕ → ℕ → Tree
last_state kind states length = state_at kind states (Apply op.Predecessor (read length))

-- `~EOF_ACTION[state as usize]`
abbrev pub eof_entry : Making → Tree → Tree
eof_entry m state = Apply (op.Entry m.eof_table) (Apply op.AsIndex state)

-- the two parts of a simulated reduction, from a slot on; true is returned where it accepts
abbrev pub simulated_parts : Tree → ℕ → ℕ → Tree
simulated_parts simulated slot pop =
    on_tags simulated slot (tag.Accept, give_back (Plain (leaf.Bool true))) (tag.Reduce, Apply (op.Parts pop 2) (take_slot slot))

-- pushes the goto of the state below the place where the list was cut
abbrev pub goto_lines : Making → Option StateType → ℕ → ℕ → ℕ → ℕ → List Tree
goto_lines m kind states nonterminal length top =
    write top (last_state kind states length)
    ∷ joined join.Push (read states ∷ call_named (codes "goto") (read top ∷ read nonterminal ∷ []) m ∷ [])
    ∷ []

-- the action on the token, or on the end of input
abbrev pub trial_entry : Making → Names → ℕ → ℕ → Tree
trial_entry m names top integer =
    on_option (read_name names (codes "~opt_integer")) integer (eof_entry m (read top)) (call_named (codes "action") (read top ∷ read integer ∷ []) m)

-- the call that tells what the reduction of an action would do
abbrev pub simulated_call : Making → ℕ → Tree
simulated_call m action = call_named (codes "simulate_reduce") (production_of action ∷ []) m

-- one turn of a trial, whose eight slots stand one after another: the length, its last state, the action, the token,
-- the simulated reduction, its two parts, and the state that the goto goes from
abbrev pub trial_turn : Making → Names → Option StateType → ℕ → ℕ → Tree
trial_turn m names kind states length =
    one_after_another (
    (write length (Apply op.Length (read states))
    ∷ write (length + 1) (last_state kind states length)
    ∷ write (length + 2) (trial_entry m names (length + 1) (length + 3))
    ∷ answer_if op.IsZero (length + 2) false
    ∷ answer_if op.IsPositive (length + 2) true
    ∷ simulated_parts (simulated_call m (length + 2)) (length + 4) (length + 5)
    ∷ write length (joined join.Subtract (read length ∷ read (length + 5) ∷ []))
    ∷ joined join.Truncate (read states ∷ read length ∷ [])
    ∷ []) ++ goto_lines m kind states (length + 6) length (length + 7))

-- the lines of a trial, where the copy of the states has this slot
abbrev pub accepts_lines : Making → Names → Option StateType → List Tree
accepts_lines m names kind =
    write names.next (Apply op.CopyStates (states names))
    ∷ joined join.Extend (read names.next ∷ read_name (bound (codes "~states") names) (codes "~error_state") ∷ [])
    ∷ Loop (trial_turn m (bound (codes "~states") names) kind names.next (bound (codes "~states") names).next)
    ∷ []

abbrev pub accepts_under : Making → Names → Option StateType → Function
accepts_under m names kind =
    function_of names.next (after_slots 8 (bound (codes "~states") names)) (one_after_another (accepts_lines m names kind))

-- whether a stack of states accepts a token
abbrev pub accepts_function : Making → Form → Function
accepts_function m header = accepts_under m (parameters m.prefix header) (slice_type m.prefix header)
