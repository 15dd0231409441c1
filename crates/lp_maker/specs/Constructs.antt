-- Expressions for the constructs of printed lines.
use Rattle.std.specs.Prelude.{ℕ, ◌-◌, ℤ, List, [], ◌∷◌, Option, Some, None}
use Rattle.lp_core.specs.declared.expr.Leaf.TheVariants as leaf
use Rattle.lp_core.specs.declared.expr.Op.TheVariants as op
use Rattle.lp_core.specs.declared.expr.Join.{Join}
use Rattle.lp_core.specs.declared.expr.Target.TheVariants as target
use Rattle.lp_core.specs.declared.expr.Case.{Case}
use Rattle.lp_core.specs.declared.expr.Place.TheVariants as place
use Rattle.lp_core.specs.declared.expr.Test.{Test}
use Rattle.lp_core.specs.declared.expr.Test.TheVariants as test
use Rattle.lp_core.specs.declared.expr.Function.{Function}
use Rattle.lp_core.specs.declared.value.StateType.{StateType}
use Rattle.lp_core.specs.declared.value.Tag.{Tag}
use Rattle.lp_core.specs.declared.value.Tag.TheVariants as tag
use Rattle.lp_core.specs.Numbers.{fitting}
use Rattle.lp_core.specs.Tree.{Tree, Plain, Apply, Match, Call, Block, trees_of}
use Rattle.lp_maker.specs.Slots.{Names}

-- what has no meaning
abbrev pub stuck : Tree
stuck = Plain leaf.Stuck

abbrev pub read : ℕ → Tree
read slot = Plain (leaf.Read slot)

abbrev pub take_slot : ℕ → Tree
take_slot slot = Plain (leaf.Take slot)

-- `let` and assignment
abbrev pub write : ℕ → Tree → Tree
write slot e = Apply (op.Write slot) e

abbrev pub one_after_another : List Tree → Tree
one_after_another parts = Block (trees_of parts)

abbrev pub call_function : ℕ → List Tree → Tree
call_function number args = Call (target.Function number) (trees_of args)

abbrev pub joined : Join → List Tree → Tree
joined join args = Call (target.Join join) (trees_of args)

abbrev pub give_back : Tree → Tree
give_back e = Apply op.Return e

-- what a slot holds, if there is one
abbrev pub read_found : Option ℕ → Tree
read_found None = stuck
read_found (Some slot) = read slot

abbrev pub take_found : Option ℕ → Tree
take_found None = stuck
take_found (Some slot) = take_slot slot

-- a call of a function, if it is there
abbrev pub called : List Tree → Option ℕ → Tree
called args None = stuck
called args (Some number) = call_function number args

-- a test of the value itself
abbrev pub here : Test → ℕ → Case
here test body = record { place = place.Here; test = test; body = body }

-- a match on two tags; anything else has no meaning
abbrev pub on_tags : Tree → ℕ → Tag × Tree → Tag × Tree → Tree
on_tags value slot first second =
    Match value slot (here (test.Is first.0) 0 ∷ here (test.Is second.0) 1 ∷ []) (trees_of (first.1 ∷ second.1 ∷ stuck ∷ []))

-- puts what is in the slot's value in its place, and goes on
abbrev pub opened : ℕ → Tree → Tree
opened slot e = one_after_another (Apply (op.Parts slot 1) (take_slot slot) ∷ e ∷ [])

-- `match value { None => none, Some(x) => some }`
abbrev pub on_option : Tree → ℕ → Tree → Tree → Tree
on_option value slot none some = on_tags value slot (tag.Absent, none) (tag.Present, opened slot some)

-- `match value { Ok(x) => good, Err(x) => bad }`
abbrev pub on_result : Tree → ℕ → Tree → Tree → Tree
on_result value slot good bad = on_tags value slot (tag.Success, opened slot good) (tag.Failure, opened slot bad)

-- `value?`, by way of a slot
abbrev pub tried : ℕ → Tree → Tree
tried slot value = on_result value slot (take_slot slot) (give_back (Apply (op.Wrap tag.Failure) (take_slot slot)))

abbrev pub absent : Tree
absent = Plain (leaf.Empty tag.Absent)

abbrev pub fitted : StateType → Option ℤ → Tree
fitted kind None = stuck
fitted kind (Some n) = Plain (leaf.State kind n)

-- a number of a state type
abbrev pub state : Option StateType → Option ℤ → Tree
state None number = stuck
state (Some kind) None = stuck
state (Some kind) (Some number) = fitted kind (fitting kind number)

-- a printed `usize`
abbrev pub index : Option ℕ → Tree
index None = stuck
index (Some n) = Plain (leaf.Index n)

-- a function whose parameters take the first slots
abbrev pub function_of : ℕ → Names → Tree → Function
function_of params names body = record { params = params; slots = names.next - params; body = body }
