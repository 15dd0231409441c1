-- What printed parts show in front: the lines of their first steps, and where other parts follow, the first lines of these.
use Rattle.std.specs.Prelude.{◌≡◌, ℕ, zero, suc, ◌⊎◌, List, [], ◌∷◌}
use Rattle.lp_form.specs.Templates.{steps_of}
use Rattle.lp_form.specs.Templates as template
use Rattle.lp_form.specs.declared.class.Class.{Class}
use Rattle.lp_form.specs.declared.part.Part.{Part}
use Rattle.lp_form.specs.declared.template.Step.{Step}
use Rattle.lp_form.specs.declared.template.Step.TheVariants as step
use Rattle.lp_spelling.specs.Lines.{line_of}
use Rattle.lp_reading_laws.specs.Holes.Found.{AreFilled}
use Rattle.lp_program.specs.Begins.{Lines, SomeMember, IsUseFirst}

-- the line stands in front, and behind it what follows
abbrev pub IsFirst : List ℕ → Lines → (Lines → Type 0) → Type 0
IsFirst line [] Next = ⊥
IsFirst line (l ∷ lines) Next = (l ≡ line) × Next lines

-- what a step shows: its line and then the others; the others alone; a use; a part of a class, or else the others where it may
-- have none; of user code, entries and lines of a number that isn't told, nothing
abbrev pub StepOpens : Step → Type 0 → Type 0 → Type 0 → (Class → Type 0) → Type 0
StepOpens (step.Line blanks) line others uses below = line
StepOpens step.Empty line others uses below = others
StepOpens step.Note line others uses below = others
StepOpens step.NoteAlways line others uses below = others
StepOpens step.Use line others uses below = uses
StepOpens (step.One class) line others uses below = below class
StepOpens (step.Some class) line others uses below = below class
StepOpens (step.Optional class) line others uses below = below class ⊎ others
StepOpens (step.Many class) line others uses below = below class ⊎ others
StepOpens (step.Pairs first second) line others uses below = below first ⊎ others
StepOpens _ line others uses below = Unit {0}

-- nothing is known
abbrev pub Anything : Lines → Type 0
Anything lines = Unit {0}

-- steps show the lines in front; where they show none, Behind tells what stands there. Behind the last line nothing is known
abbrev pub StepsOpen : (Class → Lines → Type 0) → (Lines → Type 0) → List ℕ → List (List ℕ) → List template.Line → Lines → Type 0
StepsOpen below Behind prefix holes [] lines = Behind lines
StepsOpen below Behind prefix holes (s ∷ steps) lines =
    StepOpens s.0
    (IsFirst (line_of prefix holes s.1) lines (λ rest. StepsOpen below Anything prefix holes steps rest))
    (StepsOpen below Behind prefix holes steps lines)
    (IsUseFirst lines)
    (λ class. below class lines)

-- a printed part shows the lines in front, where parts stand at most so deep in one another
unfoldable pub Opens : ℕ → List ℕ → Part → Lines → Type 0
Opens zero prefix p lines = ⊥
Opens (suc depth) prefix p lines =
    (holes : List (List ℕ)) × AreFilled prefix p holes × StepsOpen (λ class rest. SomeMember class (λ m. Opens depth prefix m rest)) Anything prefix holes (steps_of p) lines
