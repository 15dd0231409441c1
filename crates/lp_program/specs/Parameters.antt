-- Whose parameters an action has: what the last of the parameters in its header shows.
use Rattle.std.specs.Prelude.{ℕ, Bool, not, ◌&&◌, if◌then◌else◌, nat_eq, List, [], ◌∷◌, length, drop, codes}
use Rattle.std.specs.List.{starts_with}
use Rattle.lp_form.specs.contracts.part.PartPartialEq.TheImpl as equality
use Rattle.lp_form.specs.declared.part.Part.TheVariants as part
use Rattle.lp_program.specs.Trees.{Content}
use Rattle.lp_program.specs.declared.read.reader.Parameters.{Parameters}
use Rattle.lp_program.specs.declared.read.reader.Parameters.TheVariants as whose

-- the first hole, if there is one
abbrev pub first_or : List ℕ → List (List ℕ) → List ℕ
first_or last [] = last
first_or last (h ∷ holes) = h

-- the last parameter after a part, where this was the last before it
abbrev pub parameter_after : List ℕ → Content → List ℕ
parameter_after last c = if (equality.ghosts).eq c.part part.ParameterRow then first_or last c.holes else last

-- the last parameter after parts
abbrev pub last_parameter : List ℕ → List Content → List ℕ
last_parameter last [] = last
last_parameter last (c ∷ cs) = last_parameter (parameter_after last c) cs

-- a numbered argument of inlined actions, and no place of a span
abbrev pub is_argument : List ℕ → List ℕ → Bool
is_argument prefix parameter = starts_with nat_eq parameter prefix && not (starts_with nat_eq (drop (length prefix) parameter) (codes "look"))

-- whose parameters end with this one: patterns of user code, numbered arguments of inlined actions, or none of either
abbrev pub parameters_of : List ℕ → List ℕ → Parameters
parameters_of prefix parameter =
    if starts_with nat_eq parameter (codes "(_, ") then whose.User else (if is_argument prefix parameter then whose.Inlined else whose.None)
