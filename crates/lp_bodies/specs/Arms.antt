-- The arms of a match over a header's parameters, gathered row by row.
use Rattle.std.specs.Prelude.{ℕ, ℤ, List, [], ◌∷◌, ◌++◌, length, Option, Some, None}
use Rattle.lp_core.specs.declared.expr.Case.{Case}
use Rattle.lp_core.specs.declared.expr.Function.{Function}
use Rattle.lp_core.specs.declared.expr.Test.{Test}
use Rattle.lp_core.specs.declared.expr.Test.TheVariants as test
use Rattle.lp_core.specs.Tree.{Tree, Match, trees_of}
use Rattle.lp_view.specs.PartLists.{Form}
use Rattle.lp_maker.specs.Numbers.{wide_number_of}
use Rattle.lp_maker.specs.Slots.{Names, no_names, after_slots}
use Rattle.lp_maker.specs.Constructs.{here, function_of}
use Rattle.lp_maker.specs.Making.{parameters}
use Rattle.lp_bodies.specs.declared.arms.Arms.{Arms}

-- the names of the header so far with the number of its parameters, the tests, and the bodies
pub record Gathered : Type 0 where
  pub names : Names
  pub params : ℕ
  pub cases : List Case
  pub bodies : List Tree

abbrev pub gathered : Arms → Gathered
gathered a = record { names = a.scope; params = a.params; cases = a.cases.items; bodies = a.bodies.items }

abbrev pub no_arms : Gathered
no_arms = record { names = no_names; params = 0; cases = []; bodies = [] }

-- the header's parameters are the names
abbrev pub with_header : List ℕ → Form → Gathered → Gathered
with_header prefix header a = record a { names = parameters prefix header; params = (parameters prefix header).next }

-- a test that leads to the next body
abbrev pub with_case : Test → Gathered → Gathered
with_case t a = record a { cases = a.cases ++ here t (length a.bodies) ∷ [] }

abbrev pub with_found_case : Option ℤ → Gathered → Gathered
with_found_case None a = a
with_found_case (Some n) a = with_case (test.Between n n) a

-- a test for a printed number that leads to the next body, if it is one
abbrev pub with_number_case : List ℕ → Gathered → Gathered
with_number_case text a = with_found_case (wide_number_of text) a

abbrev pub with_body : Tree → Gathered → Gathered
with_body body a = record a { bodies = a.bodies ++ body ∷ [] }

abbrev pub with_names : Names → Gathered → Gathered
with_names names a = record a { names = names }

-- the match of a value, whose slot is the next one; what fits no test goes on with the last body
abbrev pub choice : Tree → Tree → Gathered → Tree
choice value last a = Match value a.names.next a.cases (trees_of (a.bodies ++ last ∷ []))

-- the function whose body is the match
abbrev pub choice_function : Tree → Tree → Gathered → Function
choice_function value last a = function_of a.params (after_slots 1 a.names) (choice value last a)
