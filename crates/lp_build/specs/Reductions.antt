-- Reductions of the table-driven code.
use Rattle.std.specs.Prelude.{ℕ, ◌+◌, ◌-◌, ◌==◌, nat_lt, Bool, List, [], ◌∷◌, ◌++◌, drop, decimal, Option, Some, None, if◌then◌else◌}
use Rattle.std.specs.List.{flat_map}
use Rattle.lp_form.specs.declared.part.Part.TheVariants as part
use Rattle.lp_tree.specs.ProgramTree.{Item, Note, all_notes, is_part, items, leaf}
use Rattle.lp_tree.specs.declared.tree.Node.{Node}
use Rattle.lp_build.specs.Built.{first_notes, first_parts, over, row}
use Rattle.lp_build.specs.declared.reductions.Produced.{Produced}
use Rattle.lp_build.specs.declared.reductions.ReduceArm.{ReduceArm}
use Rattle.lp_build.specs.declared.reductions.ReduceCall.{ReduceCall}

-- a node, if it is the body of a reduction, and its parts, if it isn't
abbrev pub body_in : Node → List Node
body_in n = if is_part part.ReduceBody n then n ∷ [] else []

abbrev pub but_body : Node → List Item
but_body n = if is_part part.ReduceBody n then [] else items n

-- the notes of a node's parts, if it isn't a body
abbrev pub but_body_notes : Node → List (List Note)
but_body_notes n = if is_part part.ReduceBody n then [] else all_notes n

-- a production that calls its own function, or has the next body below it
abbrev pub arm_of : ℕ → Option ReduceCall → List Node → List Item
arm_of production (Some call) bodies = leaf part.ReduceCallArm (decimal production ∷ call.arguments ∷ call.phantom ∷ [])
arm_of production None bodies = over part.ReduceBodyArm (decimal production ∷ []) (first_parts bodies)

abbrev pub left_by : Option ReduceCall → List Node → List Node
left_by (Some call) bodies = bodies
left_by None bodies = drop 1 bodies

abbrev pub arm_lines : ReduceArm → List Node → List Item
arm_lines a bodies = arm_of a.production a.call bodies

-- the bodies that an arm leaves
abbrev pub bodies_after : ReduceArm → List Node → List Node
bodies_after a bodies = left_by a.call bodies

-- the arms in their order, and then the bodies that they leave
abbrev pub all_arms : List ReduceArm → List Node → List Item
all_arms [] bodies = flat_map items bodies
all_arms (a ∷ arms) bodies = arm_lines a bodies ++ all_arms arms (bodies_after a bodies)

-- the notes of an arm: those of the body below it
abbrev pub notes_of : Option ReduceCall → List Node → List (List Note)
notes_of (Some call) bodies = [] ∷ []
notes_of None bodies = [] ∷ first_notes bodies

abbrev pub arm_notes : ReduceArm → List Node → List (List Note)
arm_notes a bodies = notes_of a.call bodies

-- those of the arms in their order, and then of the bodies that they leave
abbrev pub all_arm_notes : List ReduceArm → List Node → List (List Note)
all_arm_notes [] bodies = flat_map all_notes bodies
all_arm_notes (a ∷ arms) bodies = arm_notes a bodies ++ all_arm_notes arms (bodies_after a bodies)

-- the number of symbols is asserted where there are several
abbrev pub assert_lines : ℕ → List Item
assert_lines n = if nat_lt 1 n then leaf part.AssertLine (decimal n ∷ []) else []

-- symbols of these variants, numbered from k on, are popped from the last one down
abbrev pub pop_lines : ℕ → List (List ℕ) → List Item
pop_lines k [] = []
pop_lines k (v ∷ vs) = pop_lines (k + 1) vs ++ row part.PopLine (decimal k ∷ v ∷ []) ∷ []

-- the span of so many popped symbols
abbrev pub span_of : ℕ → List Item
span_of n = if n == 0 then leaf part.SpanEmpty [] else leaf part.SpanPopped (decimal 0 ∷ decimal (n - 1) ∷ [])

-- the call of an action
abbrev pub call_of : Bool → ℕ → List ℕ → List ℕ → List Item
call_of fallible action type_arguments arguments =
    leaf (if fallible then part.CallFallible else part.CallPlain) (decimal action ∷ type_arguments ∷ arguments ∷ [])

-- what is pushed where so many symbols were popped; the start's reduction answers
abbrev pub outcome_of : ℕ → Option Produced → List Item
outcome_of symbols None = leaf part.OutcomeStart []
outcome_of symbols (Some p) = leaf part.OutcomePush (p.variant ∷ decimal symbols ∷ decimal p.nonterminal ∷ [])
