-- What a reader sees in front of it: the lines that count there, and the part of a class that they begin.
use Rattle.std.specs.Prelude.{◌≡◌, ℕ, ◌<◌, Bool, false, ◌==◌, List, [], ◌∷◌, length, Option, Some, None}
use Rattle.std.specs.Bool.{MatchBool}
use Rattle.lp_form.specs.Classes.{members_of}
use Rattle.lp_form.specs.Templates.{Piece}
use Rattle.lp_form.specs.declared.class.Class.{Class}
use Rattle.lp_form.specs.declared.part.Part.{Part}
use Rattle.lp_form.specs.declared.template.Kind.{Kind}
use Rattle.lp_spelling.specs.Counting.{settled}
use Rattle.lp_spelling.specs.LineReading.{line_at, ReadsLine}
use Rattle.lp_program.specs.Begins.{Lines, member, Begins}
use Rattle.lp_program.specs.Reads.{TakesLine}

-- these are the lines of a text that count, all of them
abbrev pub AreCounted : List ℕ → Lines → Type 0
AreCounted text [] = settled text ≡ []
AreCounted text (l ∷ lines) = (rest : List ℕ) × TakesLine l text rest × AreCounted rest lines

-- what holds of the lines of a text that count
abbrev pub OfLines : List ℕ → (Lines → Type 0) → Type 0
OfLines text Holds = (lines : Lines) → AreCounted text lines → Holds lines

-- an answer on the line in front, after which these holes are known
abbrev pub AnswersLine : List ℕ → List Kind → List Piece → List (List ℕ) → List (List ℕ) → Bool → Lines → Type 0
AnswersLine prefix kinds pieces old new b [] = b ≡ false
AnswersLine prefix kinds pieces old new b (l ∷ lines) = ReadsLine prefix kinds old new (line_at prefix kinds pieces old l) b

-- the lines begin none of the first parts of a class
abbrev pub NoneBegun : ℕ → List ℕ → Class → ℕ → Lines → Type 0
NoneBegun depth prefix class count lines = (i : ℕ) → i < count → Begins depth prefix (member class i) lines → ⊥

-- an answer on a class: the first of its parts that the lines begin, or that they begin none
abbrev pub Picks : ℕ → List ℕ → Class → Option Part → Lines → Type 0
Picks depth prefix class None lines = NoneBegun depth prefix class (length (members_of class)) lines
Picks depth prefix class (Some p) lines =
    (i : ℕ) × (i < length (members_of class)) × (p ≡ member class i) × Begins depth prefix p lines × NoneBegun depth prefix class i lines

-- the same, or the one part that the class has
abbrev pub Chooses : ℕ → List ℕ → Class → Option Part → Lines → Type 0
Chooses depth prefix class chosen lines =
    MatchBool (length (members_of class) == 1) (chosen ≡ Some (member class 0)) (Picks depth prefix class chosen lines)
