-- What the laws say: the parts of a class are told apart by their first lines, from one another and from what stands behind them.
use Rattle.std.specs.Prelude.{◌≡◌, ℕ, suc, ◌<◌, true, false, List, ◌∷◌, ◌++◌, length}
use Rattle.std.specs.List.{AllByRecursion}
use Rattle.lp_form.specs.Classes.{members_of}
use Rattle.lp_form.specs.Templates.{steps_of}
use Rattle.lp_form.specs.Templates as template
use Rattle.lp_form.specs.declared.class.Class.{Class}
use Rattle.lp_form.specs.declared.part.Part.{Part}
use Rattle.lp_reading_laws.specs.Holes.Found.{are_words, AreFilled}
use Rattle.lp_reading_laws.specs.Holes.Parted.{IsParted}
use Rattle.lp_program.specs.Begins.{Lines, member, SomeMember, Begins}
use Rattle.lp_reading_laws.specs.FirstLines.Opens.{StepsOpen, Anything, Opens}
use Rattle.lp_reading_laws.specs.FirstLines.ApartTests.{is_body}
use Rattle.lp_reading_laws.specs.FirstLines.Behind.{ended_classes, places, class_tails, BeginNone, Follow}

-- under a prefix of word bytes, the lines that a part of a class shows begin none of those before it; but for the body of an action
abbrev pub AlternativesApart : Type 0
AlternativesApart = (prefix : List ℕ) (class : Class) (i j : ℕ) (lines : Lines) (n m : ℕ) → are_words prefix ≡ true → is_body class ≡ false →
    i < j → j < length (members_of class) → Opens n prefix (member class j) lines → Begins m prefix (member class i) lines → ⊥

-- behind a step that may have no more parts of a class, the lines of the steps that follow in its part begin none of these
abbrev pub EndsSeen : Type 0
EndsSeen = (prefix : List ℕ) (p : Part) (holes : List (List ℕ)) (front steps : List template.Line) (s : template.Line) (lines : Lines) (n : ℕ) → are_words prefix ≡ true → AreFilled prefix p holes →
    steps_of p ≡ front ++ s ∷ steps → Follow n prefix holes steps lines → BeginNone prefix (ended_classes s.0) lines

-- behind a part of a step, the lines of what follows it in the part above begin none that may be missing at its end
abbrev pub TailsSeen : Type 0
TailsSeen = (prefix : List ℕ) (p : Part) (holes : List (List ℕ)) (front steps : List template.Line) (s : template.Line) (lines : Lines) (n : ℕ) → are_words prefix ≡ true → AreFilled prefix p holes →
    steps_of p ≡ front ++ s ∷ steps → AllByRecursion (λ place. Follow n prefix holes place.1 lines → BeginNone prefix (class_tails place.0) lines) (places s.0 steps)

-- the lines that a part shows begin it, where those of the part in front of all its lines, if there is one, begin that
abbrev pub PrintedBegin : Type 0
PrintedBegin = (prefix : List ℕ) (p : Part) (holes : List (List ℕ)) (lines : Lines) (n : ℕ) → are_words prefix ≡ true → AreFilled prefix p holes → IsParted prefix p holes →
    StepsOpen (λ class rest. SomeMember class (λ m. Begins n prefix m rest)) Anything prefix holes (steps_of p) lines → Begins (suc n) prefix p lines
