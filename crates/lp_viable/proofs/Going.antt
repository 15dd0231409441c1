-- What a text begins that stops before its end, where all that is read in front of the place where it stops goes on behind anything.
use Rattle.std.proofs.Common.{◌≡◌, ℕ, ◌+◌, true, List, [], ◌∷◌, ◌++◌}
use Rattle.std.specs.Str.{IsUtf8}
use Rattle.lp_form.specs.Templates.{steps_of}
use Rattle.lp_form.specs.Templates as template
use Rattle.lp_form.specs.declared.part.Part.{Part}
use Rattle.lp_form.specs.declared.template.Step.{Step}
use Rattle.lp_spelling.specs.Counting.{settled}
use Rattle.lp_program.specs.Reads.{may_have, parts_in, TakesOwn, Task, Reads, trees}
use Rattle.lp_program.specs.Starting.{Goal, one_part, below_step, steps_left, goes_on}
use Rattle.lp_program.specs.Telling.{Told, untold, TellsOwn}
use Rattle.lp_program.specs.Trees.{Content, Forest, tree_count}
use Rattle.lp_local.proofs.Ended.{IsEnded}

-- what a step takes off a text, it takes off it with anything behind
abbrev pub OwnGoesOn : List ℕ → ℕ → template.Line → List ℕ → List ℕ → Type 0
OwnGoesOn prefix count s text own = (c : Content) → TakesOwn prefix c count s.1 s.0 text own → (x : List ℕ) → TakesOwn prefix c count s.1 s.0 (text ++ x) (own ++ x)

-- what is read of a text is read of it with anything behind
abbrev pub ReadsGoOn : List ℕ → Task → List ℕ → List ℕ → Type 0
ReadsGoOn prefix task text rest = (x : List ℕ) → Reads prefix task (text ++ x) (rest ++ x)

-- a text begins what is expected: nothing that counts is left of it, which is ended, or it goes on behind what is read of it
pub data StartsOn (prefix : List ℕ) : Goal → List ℕ → Type 0 where
  -- all of it is read
  ended_on : (g : Goal) (text : List ℕ) → IsUtf8 text → IsEnded text → settled text ≡ [] → StartsOn prefix g text
  -- a part, of which nothing is told yet
  in_part_on : (p : Part) (text : List ℕ) → StartsOn prefix (steps_left p untold 0 (steps_of p)) text → StartsOn prefix (one_part p) text
  -- it stops within what the step itself takes
  in_own_on : (p : Part) (old new : Told) (count : ℕ) (s : template.Line) (others : List template.Line) (text more rest : List ℕ) → IsUtf8 text → IsUtf8 (more ++ rest) →
      TellsOwn prefix p count s.1 s.0 old new (text ++ (more ++ rest)) rest → StartsOn prefix (steps_left p old count (s ∷ others)) text
  -- it stops within what the step has below
  in_below_on : (p : Part) (old new : Told) (count : ℕ) (s : template.Line) (others : List template.Line) (text own : List ℕ) → IsUtf8 text →
      TellsOwn prefix p count s.1 s.0 old new text own → OwnGoesOn prefix count s text own → StartsOn prefix (below_step s.0) own → StartsOn prefix (steps_left p old count (s ∷ others)) text
  -- the step is read, with the trees that it has
  behind_step_on : (p : Part) (old new : Told) (count : ℕ) (s : template.Line) (others : List template.Line) (now : Forest) (text own mid : List ℕ) → IsUtf8 text →
      may_have s.0 (parts_in now) ≡ true → TellsOwn prefix p count s.1 s.0 old new text own → OwnGoesOn prefix count s text own → ReadsGoOn prefix (trees now) own mid →
      StartsOn prefix (steps_left p new (count + tree_count now) others) mid → StartsOn prefix (steps_left p old count (s ∷ others)) text
  -- some trees of the step are read, and a part begins behind them
  in_tree_on : (s : Step) (f : Forest) (p : Part) (text mid : List ℕ) → IsUtf8 text → goes_on s (parts_in f) p ≡ true → ReadsGoOn prefix (trees f) text mid → StartsOn prefix (one_part p) mid → StartsOn prefix (below_step s) text
