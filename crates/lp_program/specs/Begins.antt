-- What the lines in front begin, as the reader of programs asks it: the first lines of a part are read there, and their holes hold what they may.
use Rattle.std.specs.Prelude.{◌≡◌, ℕ, zero, suc, ◌<◌, Bool, true, false, List, [], ◌∷◌, length, get_or, Some, codes, nat_eq}
use Rattle.std.specs.List.{starts_with}
use Rattle.lp_form.specs.Classes.{members_of}
use Rattle.lp_form.specs.Templates.{Piece, steps_of, holes_of}
use Rattle.lp_form.specs.Templates as template
use Rattle.lp_form.specs.declared.class.Class.{Class}
use Rattle.lp_form.specs.declared.part.Part.{Part}
use Rattle.lp_form.specs.declared.part.Part.TheVariants as part
use Rattle.lp_form.specs.declared.template.Kind.{Kind}
use Rattle.lp_form.specs.declared.template.Step.{Step}
use Rattle.lp_form.specs.declared.template.Step.TheVariants as step
use Rattle.lp_spelling.specs.LineReading.{line_at, AllFill}

-- the lines of a text that count, without the blanks in front
abbrev pub Lines : Type 0
Lines = List (List ℕ)

-- a part of a class, by its place in the order in which they are tried
abbrev pub member : Class → ℕ → Part
member class i = get_or (members_of class) i part.Program

-- some part of a class is such
abbrev pub SomeMember : Class → (Part → Type 0) → Type 0
SomeMember class Is = (i : ℕ) × (i < length (members_of class)) × Is (member class i)

-- the line in front is read by the pieces, what is new fills its holes, and with what is known then the others go on
abbrev pub ReadsFirst : List ℕ → List Kind → List Piece → List (List ℕ) → Lines → (List (List ℕ) → Lines → Type 0) → Type 0
ReadsFirst prefix kinds pieces known [] Next = ⊥
ReadsFirst prefix kinds pieces known (l ∷ lines) Next =
    (holes : List (List ℕ)) × (line_at prefix kinds pieces known l ≡ Some holes) × AllFill prefix kinds (length known) holes × Next holes lines

-- the line in front begins as a use
abbrev pub IsUseFirst : Lines → Type 0
IsUseFirst [] = ⊥
IsUseFirst (l ∷ lines) = starts_with nat_eq l (codes "use ") ≡ true

-- what is asked of a step, where lines stood before it or not: its line and then the others; the others alone; a use; a part of
-- a class, where no line stood before it; or nothing
abbrev pub StepBegins : Step → Bool → Type 0 → Type 0 → Type 0 → (Class → Type 0) → Type 0
StepBegins (step.Line blanks) seen line others uses below = line
StepBegins step.Empty seen line others uses below = others
StepBegins step.Note seen line others uses below = others
StepBegins step.NoteAlways seen line others uses below = others
StepBegins step.Use seen line others uses below = uses
StepBegins (step.One class) true line others uses below = Unit {0}
StepBegins (step.One class) false line others uses below = below class
StepBegins _ seen line others uses below = Unit {0}

-- the lines in front begin the steps, of which these holes are known
abbrev pub StepsBegin : (Class → Lines → Type 0) → List ℕ → List Kind → Bool → List (List ℕ) → List template.Line → Lines → Type 0
StepsBegin below prefix kinds seen known [] lines = Unit {0}
StepsBegin below prefix kinds seen known (s ∷ steps) lines =
    StepBegins s.0 seen
    (ReadsFirst prefix kinds s.1 known lines (λ holes rest. StepsBegin below prefix kinds true holes steps rest))
    (StepsBegin below prefix kinds seen known steps lines)
    (IsUseFirst lines)
    (λ class. below class lines)

-- the lines in front begin a part, where parts stand at most so deep in one another
unfoldable pub Begins : ℕ → List ℕ → Part → Lines → Type 0
Begins zero prefix p lines = ⊥
Begins (suc depth) prefix p lines =
    StepsBegin (λ class rest. SomeMember class (λ m. Begins depth prefix m rest)) prefix (holes_of p) false [] (steps_of p) lines
