-- What the laws say: a text that reads as trees shows them, and its lines begin nothing else.
use Rattle.std.specs.Prelude.{◌≡◌, ℕ, suc, ◌<◌, true, false, List, [], ◌∷◌, ◌++◌, length}
use Rattle.std.specs.Str.{IsUtf8}
use Rattle.lp_form.specs.Classes.{members_of}
use Rattle.lp_form.specs.Templates.{steps_of}
use Rattle.lp_form.specs.Templates as template
use Rattle.lp_form.specs.declared.class.Class.{Class}
use Rattle.lp_form.specs.declared.part.Part.{Part}
use Rattle.lp_program.specs.Trees.{Content, Forest}
use Rattle.lp_program.specs.Trees.Forest.{bare, tree}
use Rattle.lp_program.specs.Reads.{Reads}
use Rattle.lp_program.specs.Reads.Task.{trees, steps}
use Rattle.lp_reading_laws.specs.Holes.Found.{are_words, AreFilled}
use Rattle.lp_reading_laws.specs.Holes.Parted.{IsParted}
use Rattle.lp_program.specs.Begins.{Lines, member, Begins}
use Rattle.lp_reading_laws.specs.FirstLines.Opens.{Opens}
use Rattle.lp_reading_laws.specs.FirstLines.ApartTests.{is_body}
use Rattle.lp_reading_laws.specs.FirstLines.Behind.{ended_classes, places, class_tails, BeginNone}
use Rattle.lp_reading_laws.specs.Texts.TextLines.{HasLines}

-- each text has its lines, and no others
abbrev pub LinesExist : Type 0
LinesExist = (text : List ℕ) → IsUtf8 text → (lines : Lines) × HasLines text lines

abbrev pub LinesAreThese : Type 0
LinesAreThese = (text : List ℕ) (lines others : Lines) → HasLines text lines → HasLines text others → lines ≡ others

-- a part shows the lines
abbrev pub IsShown : List ℕ → Part → Lines → Type 0
IsShown prefix p lines = (depth : ℕ) × Opens depth prefix p lines

-- where a text reads as trees, the first of them shows its lines
abbrev pub TreesShown : Type 0
TreesShown = (prefix : List ℕ) (c : Content) (below after : Forest) (text rest : List ℕ) (lines : Lines) → Reads prefix (trees (tree c below after)) text rest → HasLines text lines → IsShown prefix c.part lines

-- they begin none of the parts before it in a class; but for the body of an action
abbrev pub TreesChosen : Type 0
TreesChosen = (prefix : List ℕ) (class : Class) (i j : ℕ) (c : Content) (below after : Forest) (text rest : List ℕ) (lines : Lines) (n : ℕ) → are_words prefix ≡ true → is_body class ≡ false →
    i < j → j < length (members_of class) → c.part ≡ member class j → Reads prefix (trees (tree c below after)) text rest → HasLines text lines → Begins n prefix (member class i) lines → ⊥

-- the holes of all trees are parted, and those of the trees below them
abbrev pub AreParted : List ℕ → Forest → Type 0
AreParted prefix bare = Unit {0}
AreParted prefix (tree c below after) = IsParted prefix c.part c.holes × AreParted prefix below × AreParted prefix after

-- they begin its own part, where all holes are parted, from the depth 2 on
abbrev pub TreesBegun : Type 0
TreesBegun = (prefix : List ℕ) (c : Content) (below after : Forest) (text rest : List ℕ) (lines : Lines) (n : ℕ) → are_words prefix ≡ true → AreParted prefix (tree c below after) →
    Reads prefix (trees (tree c below after)) text rest → HasLines text lines → Begins (suc (suc n)) prefix c.part lines

-- where the steps behind a step of a part take something off a text, its lines begin no part that the step may have no more of
abbrev pub StepsEnded : Type 0
StepsEnded = (prefix : List ℕ) (c : Content) (front others : List template.Line) (s : template.Line) (count : ℕ) (later : Forest) (text rest : List ℕ) (lines : Lines) → are_words prefix ≡ true → AreFilled prefix c.part c.holes →
    steps_of c.part ≡ front ++ s ∷ others → Reads prefix (steps c count others later) text rest → (rest ≡ text → ⊥) → HasLines text lines → BeginNone prefix (ended_classes s.0) lines

-- where the steps behind a step with at most one part take something off a text, its lines begin none that may be missing at the part's end
abbrev pub TailsEnded : Type 0
TailsEnded = (prefix : List ℕ) (c : Content) (front others : List template.Line) (s : template.Line) (class : Class) (count : ℕ) (later : Forest) (text rest : List ℕ) (lines : Lines) → are_words prefix ≡ true → AreFilled prefix c.part c.holes →
    steps_of c.part ≡ front ++ s ∷ others → places s.0 others ≡ (class, others) ∷ [] → Reads prefix (steps c count others later) text rest → (rest ≡ text → ⊥) → HasLines text lines → BeginNone prefix (class_tails class) lines
