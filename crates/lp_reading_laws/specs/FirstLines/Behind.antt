-- What stands behind the parts of a step, and the classes of which a step may have no more parts there.
use Rattle.std.specs.Prelude.{ℕ, zero, suc, ◌<◌, Bool, true, false, not, List, [], ◌∷◌, ◌++◌, length}
use Rattle.std.specs.List.{list_all, list_any, flat_map, AllByRecursion}
use Rattle.lp_form.specs.Classes.{members_of}
use Rattle.lp_form.specs.Templates.{steps_of, holes_of}
use Rattle.lp_form.specs.Templates as template
use Rattle.lp_form.specs.declared.class.Class.{Class}
use Rattle.lp_form.specs.declared.template.Step.{Step}
use Rattle.lp_form.specs.declared.template.Step.TheVariants as step
use Rattle.lp_program.specs.Begins.{Lines, member, SomeMember, Begins}
use Rattle.lp_reading_laws.specs.FirstLines.Opens.{StepsOpen, Opens}

-- the class of which a step may have no more parts, though it may have one
abbrev pub ended_classes : Step → List Class
ended_classes (step.Optional class) = class ∷ []
ended_classes (step.Many class) = class ∷ []
ended_classes (step.Some class) = class ∷ []
ended_classes (step.Pairs first second) = first ∷ []
ended_classes _ = []

-- the classes of a step, each with the steps that follow a part of it
abbrev pub Place : Type 0
Place = Class × List template.Line

abbrev pub places : Step → List template.Line → List Place
places (step.One class) steps = (class, steps) ∷ []
places (step.Optional class) steps = (class, steps) ∷ []
places (step.Many class) steps = (class, (step.Many class, []) ∷ steps) ∷ []
places (step.Some class) steps = (class, (step.Many class, []) ∷ steps) ∷ []
places (step.Pairs first second) steps =
    (first, (step.One second, []) ∷ (step.Pairs first second, []) ∷ steps) ∷ (second, (step.Pairs first second, []) ∷ steps) ∷ []
places _ steps = []

-- a step that certainly shows a line: its own, or that of a part, each of which has one
abbrev pub is_line : Step → Bool
is_line (step.Line blanks) = true
is_line step.Use = true
is_line _ = false

abbrev pub all_have_lines : Class → Bool
all_have_lines class = list_all (λ m. list_any (λ s. is_line s.0) (steps_of m)) (members_of class)

abbrev pub shows_line : Step → Bool
shows_line (step.One class) = all_have_lines class
shows_line (step.Some class) = all_have_lines class
shows_line s = is_line s

abbrev pub may_be_bare : List template.Line → Bool
may_be_bare steps = not (list_any (λ s. shows_line s.0) steps)

-- the classes of which parts may be missing at the end of a step that is the last to show a line: its own, and those at the ends of its parts
abbrev pub step_tails : Bool → (List template.Line → List Class) → Step → List Class
step_tails false tails s = []
step_tails true tails s = ended_classes s ++ flat_map (λ place. flat_map (λ m. tails (steps_of m)) (members_of place.0)) (places s [])

abbrev pub steps_tails : (List template.Line → List Class) → List template.Line → List Class
steps_tails tails [] = []
steps_tails tails (s ∷ steps) = step_tails (may_be_bare steps) tails s.0 ++ steps_tails tails steps

-- the same of all steps of a part, where parts stand at most so deep in one another
abbrev pub tails_within : ℕ → List template.Line → List Class
tails_within zero steps = []
tails_within (suc n) steps = steps_tails (tails_within n) steps

-- as deep as a reader goes
abbrev pub depth : ℕ
depth = 16

-- the classes of which parts may be missing at the end of a part of a class
abbrev pub class_tails : Class → List Class
class_tails class = flat_map (λ m. tails_within depth (steps_of m)) (members_of class)

-- the lines begin no part of a class, and of none of several
abbrev pub BeginNoMember : List ℕ → Class → Lines → Type 0
BeginNoMember prefix class lines = (i m : ℕ) → i < length (members_of class) → Begins m prefix (member class i) lines → ⊥

abbrev pub BeginNone : List ℕ → List Class → Lines → Type 0
BeginNone prefix classes lines = AllByRecursion (λ class. BeginNoMember prefix class lines) classes

-- no lines: where the steps that are left show none, it is told at the part above what stands behind
abbrev pub NoLines : Lines → Type 0
NoLines lines = ⊥

-- steps of a part show the lines in front, and at least one
abbrev pub Follow : ℕ → List ℕ → List (List ℕ) → List template.Line → Lines → Type 0
Follow n prefix holes steps lines = StepsOpen (λ class rest. SomeMember class (λ m. Opens n prefix m rest)) NoLines prefix holes steps lines
