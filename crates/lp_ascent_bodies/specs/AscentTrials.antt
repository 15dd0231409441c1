-- The trials of recursive ascent: what a reduction would do, and whether a stack of states accepts a terminal.
use Rattle.std.specs.Prelude.{true, false, [], ◌∷◌, length, codes, Option, Some, if◌then◌else◌}
use Rattle.lp_core.specs.declared.expr.Function.{Function}
use Rattle.lp_core.specs.declared.expr.Join.TheVariants as join
use Rattle.lp_core.specs.declared.expr.Leaf.TheVariants as leaf
use Rattle.lp_core.specs.declared.expr.Op.TheVariants as op
use Rattle.lp_core.specs.declared.value.StateType.{StateType}
use Rattle.lp_core.specs.declared.value.Tag.TheVariants as tag
use Rattle.lp_core.specs.Tree.{Tree, Plain, Apply, Loop}
use Rattle.lp_form.specs.declared.part.Part.TheVariants as part
use Rattle.lp_view.specs.PartLists.{Form, is_a, hole_of, parts_of, over}
use Rattle.lp_maker.specs.Numbers.{number_of}
use Rattle.lp_maker.specs.Texts.{state_type_of}
use Rattle.lp_maker.specs.Constructs.{stuck, read, take_slot, write, joined, one_after_another, give_back, on_option, absent, index}
use Rattle.lp_maker.specs.Making.{Making, with_function, call_named}
use Rattle.lp_bodies.specs.Arms.{Gathered, no_arms, with_number_case, with_body}
use Rattle.lp_bodies.specs.Source.{function}
use Rattle.lp_bodies.specs.Tables.{choice_at, filtered, keeping_closure}
use Rattle.lp_bodies.specs.Trials.{answer_if, production_of, state_at}

-- what an arm answers: nothing for the start, else how many states go and the nonterminal
abbrev pub ascent_answer : Form → Tree
ascent_answer row =
    if is_a part.AscentAccept row then absent else Apply (op.Wrap tag.Present) (joined (join.Make tag.Tuple) (index (number_of (hole_of 1 row)) ∷ index (number_of (hole_of 2 row)) ∷ []))

abbrev pub ascent_row : Gathered → Form → Gathered
ascent_row a row = with_body (ascent_answer row) (with_number_case (hole_of 0 row) a)

abbrev pub ascent_rows : Form → Gathered
ascent_rows form = over ascent_row no_arms (parts_of form)

-- what a reduction would do
abbrev pub ascent_simulate : Form → Function
ascent_simulate form = function 1 1 (choice_at (read 0) 1 stuck (ascent_rows form))

abbrev pub accepting : Making → Function
accepting m = keeping_closure m (read 2 ∷ read 0 ∷ [])

-- the terminals that a stack of states accepts, and what is made then
abbrev pub ascent_expected : Making → Function
ascent_expected m = function 1 0 (filtered (length m.functions) 0 m.terminals)

abbrev pub with_ascent_expected : Making → Making
with_ascent_expected m = with_function (Some (accepting m)) m

-- the last state of the list in slot 2
abbrev pub last_state : Option StateType → Tree
last_state kind = state_at kind 2 (Apply op.Predecessor (Apply op.Length (read 2)))

-- the two parts of a simulated reduction, from slot 6 on; true is returned where there is none
abbrev pub simulated : Making → Tree
simulated m =
    on_option (call_named (codes "simulate") (production_of 4 ∷ []) m) 5 (give_back (Plain (leaf.Bool true))) (Apply (op.Parts 6 2) (take_slot 5))

-- one turn of a trial: the state stands in slot 3, the action in 4
abbrev pub ascent_turn : Making → Option StateType → Tree
ascent_turn m kind =
    one_after_another (
    write 3 (last_state kind)
    ∷ write 4 (call_named (codes "action") (read 3 ∷ read 1 ∷ []) m)
    ∷ answer_if op.IsZero 4 false
    ∷ answer_if op.IsPositive 4 true
    ∷ simulated m
    ∷ joined join.Truncate (read 2 ∷ joined join.Subtract (Apply op.Length (read 2) ∷ read 6 ∷ []) ∷ [])
    ∷ write 3 (last_state kind)
    ∷ joined join.Push (read 2 ∷ call_named (codes "goto") (read 3 ∷ read 7 ∷ []) m ∷ [])
    ∷ [])

abbrev pub ascent_lines : Making → Option StateType → Tree
ascent_lines m kind = one_after_another (write 2 (Apply op.CopyStates (read 0)) ∷ Loop (ascent_turn m kind) ∷ [])

-- whether a stack of states accepts a terminal: the states stand in slot 0, the terminal in 1
abbrev pub ascent_accepts : Making → Form → Function
ascent_accepts m form = function 2 7 (ascent_lines m (state_type_of (hole_of 0 form)))
