-- The text of a run's block.
use Rattle.std.specs.Prelude.{ℕ, List, [], ◌∷◌, ◌++◌, Option, None, Some, codes, decimal}
use Rattle.std.specs.List.{flat_map}
use Rattle.lp_repr.specs.ShownValues.{event_text, outcome_text}
use Rattle.lp_repr.specs.declared.values.Event.{Event}
use Rattle.lp_repr.specs.declared.values.Outcome.{Outcome}

-- a line of a text
abbrev pub line_text : List ℕ → List ℕ
line_text text = text ++ 10 ∷ []

-- the number of a token line and its public name
abbrev pub head_text : ℕ → List ℕ → List ℕ
head_text number start = codes "run " ++ (decimal number ++ (codes " " ++ start))

-- a line for each call of user code
abbrev pub events_text : List Event → List ℕ
events_text events = flat_map (λ e. line_text (event_text e)) events

-- how a run ends; without an outcome it is stuck
abbrev pub ending_text : Option Outcome → List ℕ
ending_text None = codes "stuck"
ending_text (Some outcome) = outcome_text outcome

-- how many steps a run made, where that is printed
abbrev pub steps_text : Option ℕ → List ℕ
steps_text None = []
steps_text (Some steps) = line_text (codes "steps " ++ decimal steps)

-- the block of a run
abbrev pub block_text : ℕ → List ℕ → List Event → Option Outcome → Option ℕ → List ℕ
block_text number start events outcome steps =
    line_text (head_text number start) ++ (events_text events ++ (line_text (ending_text outcome) ++ steps_text steps))
