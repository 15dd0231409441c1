-- Bodies of actions that a reader tells: by the last parameter in front of them, or by their own code.
use Rattle.std.specs.Prelude.{◌≡◌, ℕ, false, List, [], ◌∷◌, ◌++◌, get_or}
use Rattle.std.specs.Str.{IsUtf8}
use Rattle.lp_form.specs.declared.part.Part.{Part}
use Rattle.lp_form.specs.declared.part.Part.TheVariants as part
use Rattle.lp_spelling.specs.Counting.{settled, front_line}
use Rattle.lp_program.specs.Choosing.{contents}
use Rattle.lp_program.specs.Parameters.{last_parameter, parameters_of}
use Rattle.lp_program.specs.Trees.{Content, Forest}
use Rattle.lp_program.specs.Trees.Forest.{bare, tree}
use Rattle.lp_program.specs.declared.read.reader.Parameters.{Parameters}
use Rattle.lp_program.specs.declared.read.reader.Parameters.TheVariants as parameters
use Rattle.lp_reading_laws.specs.Holes.Inlined.{begins_inlined}

-- the first line of user code that counts, if there is one, doesn't begin as those of inlined actions
pub record IsOtherCode (prefix code : List ℕ) : Type 0 where
  pub utf8 : IsUtf8 code
  pub other : begins_inlined prefix (front_line (settled code)) ≡ false

-- user code behind such parameters: patterns tell it, arguments of inlined actions rule it out, and behind others it tells itself
abbrev pub SuitsUser : List ℕ → Parameters → List ℕ → Type 0
SuitsUser prefix parameters.User code = Unit {0}
SuitsUser prefix parameters.Inlined code = ⊥
SuitsUser prefix parameters.None code = IsOtherCode prefix code

-- inlined actions, which patterns rule out
abbrev pub SuitsInlined : Parameters → Type 0
SuitsInlined parameters.User = ⊥
SuitsInlined parameters.Inlined = Unit {0}
SuitsInlined parameters.None = Unit {0}

-- a part, if it is the body of an action
abbrev pub SuitsBody : List ℕ → Parameters → Part → List (List ℕ) → Type 0
SuitsBody prefix whose part.UserBody holes = SuitsUser prefix whose (get_or holes 0 [])
SuitsBody prefix whose part.InlineBody holes = SuitsInlined whose
SuitsBody prefix whose _ holes = Unit {0}

-- all bodies in trees, behind parts that hold this: each suits the last parameter that stands before it below the same part
abbrev pub BodiesSuit : List ℕ → List Content → Forest → Type 0
BodiesSuit prefix before bare = Unit {0}
BodiesSuit prefix before (tree c below after) =
    SuitsBody prefix (parameters_of prefix (last_parameter [] before)) c.part c.holes
    × BodiesSuit prefix [] below
    × BodiesSuit prefix (before ++ (c ∷ contents below)) after
