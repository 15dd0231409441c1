-- What a reader reads that looks ahead: it chooses each part by the lines in front, and a hole is told by the first line that has it.
use Rattle.std.specs.Prelude.{◌≡◌, ℕ, zero, suc, ◌+◌, ◌^◌, ◌<◌, ◌⊎◌, List, [], ◌∷◌, ◌++◌, length, Option, Some, None, codes}
use Rattle.std.specs.Option.{MatchOption}
use Rattle.std.specs.Str.{IsUtf8}
use Rattle.lp_form.specs.Templates.{steps_of}
use Rattle.lp_form.specs.Templates as template
use Rattle.lp_form.specs.declared.class.Class.{Class}
use Rattle.lp_form.specs.declared.class.Class.TheVariants as class_of
use Rattle.lp_form.specs.declared.part.Part.{Part}
use Rattle.lp_form.specs.declared.part.Part.TheVariants as part
use Rattle.lp_form.specs.declared.template.Step.{Step}
use Rattle.lp_form.specs.declared.template.Step.TheVariants as step
use Rattle.lp_local.specs.Agreeing.{Agree}
use Rattle.lp_spelling.specs.Counting.{feeds, settled, front_line}
use Rattle.lp_tree.specs.declared.tree.Program.{Program}
use Rattle.lp_program.specs.declared.read.reader.Parameters.{Parameters}
use Rattle.lp_program.specs.declared.read.reader.Parameters.TheVariants as parameters
use Rattle.lp_program.specs.declared.read.reader.ReadFault.{ReadFault}
use Rattle.lp_program.specs.declared.read.reader.ReadFault.TheVariants as fault
use Rattle.lp_program.specs.Begins.{Lines}
use Rattle.lp_program.specs.Looking.{AreCounted, Picks, Chooses}
use Rattle.lp_program.specs.Reads.{graft, hole_count, ReadsAs}
use Rattle.lp_program.specs.Parameters.{last_parameter, parameters_of}
use Rattle.lp_program.specs.Prefixes.{ShowsPrefix}
use Rattle.lp_program.specs.Telling.{Told, untold, TellsOwn}
use Rattle.lp_program.specs.Trees.{Content, Forest, whole, tree_count}
use Rattle.lp_program.specs.Trees.Forest.{bare, tree}

-- trees that are read off the front of a text, up to what is left
abbrev pub Reading : Type 1
Reading = Forest → List ℕ → List ℕ → Type 0

-- no trees
abbrev pub Nothing : Reading
Nothing f text rest = (f ≡ bare) × (rest ≡ text)

-- trees, and behind them others, which may depend on them
pub record Followed (First : Reading) (Second : Forest → Reading) (f : Forest) (text rest : List ℕ) : Type 0 where
  pub first : Forest
  pub later : Forest
  pub mid : List ℕ
  pub trees_are : f ≡ graft first later
  pub reads : First first text mid
  pub goes_on : Second first later mid rest

-- trees that take something off the text
abbrev pub Shorter : Reading → Reading
Shorter Read f text rest = Read f text rest × (length rest < length text)

-- no trees are read so
abbrev pub IsUnread : Reading → List ℕ → Type 0
IsUnread Read text = (f : Forest) (rest : List ℕ) → Read f text rest → ⊥

-- what the parts of trees hold, each in front of those below it
abbrev pub contents : Forest → List Content
contents bare = []
contents (tree c below after) = c ∷ (contents below ++ contents after)

-- the lines of a text that count, of which this holds
abbrev pub SeenLines : List ℕ → (Lines → Type 0) → Type 0
SeenLines text Holds = (lines : Lines) × AreCounted text lines × Holds lines

-- one part of a class: the only one, or the first that the lines in front begin
abbrev pub MemberChosen : ℕ → List ℕ → (Part → Reading) → Class → Reading
MemberChosen depth prefix Parts class f text rest = (p : Part) × SeenLines text (Chooses depth prefix class (Some p)) × Parts p f text rest

-- at most one: none where the lines in front begin none
abbrev pub OptionalChosen : ℕ → List ℕ → (Part → Reading) → Class → Reading
OptionalChosen depth prefix Parts class f text rest =
    (chosen : Option Part) × SeenLines text (Picks depth prefix class chosen) × MatchOption chosen (Nothing f text rest) (λ p. Parts p f text rest)

-- so many times, behind such trees, what a part of a class begins that the lines in front begin, until they begin none; each takes something off the text
abbrev pub ManyChosen : ℕ → List ℕ → (Part → Forest → Reading) → Class → ℕ → Forest → Reading
ManyChosen depth prefix Each class zero before f text rest = SeenLines text (Picks depth prefix class None) × Nothing f text rest
ManyChosen depth prefix Each class (suc n) before f text rest =
    (p : Part) × SeenLines text (Picks depth prefix class (Some p)) × Followed (Shorter (Each p before)) (λ first. ManyChosen depth prefix Each class n (graft before first)) f text rest

-- the same, as often as it goes
abbrev pub AnyChosen : ℕ → List ℕ → (Part → Forest → Reading) → Class → Forest → Reading
AnyChosen depth prefix Each class before f text rest = (n : ℕ) × ManyChosen depth prefix Each class n before f text rest

-- inlined actions, and the `}` in the line behind them
abbrev pub InlinedChosen : (Part → Reading) → Reading
InlinedChosen Parts f text rest = Parts part.InlineBody f text rest × (front_line (settled rest) ≡ codes "}")

-- inlined actions if they can be read, else user code
abbrev pub EitherChosen : (Part → Reading) → Reading
EitherChosen Parts f text rest = InlinedChosen Parts f text rest ⊎ (IsUnread (InlinedChosen Parts) text × Parts part.UserBody f text rest)

-- the body of an action, by whose parameters stand in front
abbrev pub BodyChosen : (Part → Reading) → Parameters → Reading
BodyChosen Parts parameters.User = Parts part.UserBody
BodyChosen Parts parameters.Inlined = Parts part.InlineBody
BodyChosen Parts parameters.None = EitherChosen Parts

-- one part of a class, behind parts that hold this
abbrev pub ClassChosen : ℕ → List ℕ → (Part → Reading) → List Content → Class → Reading
ClassChosen depth prefix Parts before class_of.ActionBody = BodyChosen Parts (parameters_of prefix (last_parameter [] before))
ClassChosen depth prefix Parts before class = MemberChosen depth prefix Parts class

-- a part, and one of a class behind it
abbrev pub PairChosen : ℕ → List ℕ → (Part → Reading) → List Content → Class → Part → Reading
PairChosen depth prefix Parts before second p = Followed (Parts p) (λ first. ClassChosen depth prefix Parts (before ++ contents first) second)

-- what a step has below
abbrev pub BelowChosen : ℕ → List ℕ → (Part → Reading) → Step → List Content → Reading
BelowChosen depth prefix Parts (step.One class) before = ClassChosen depth prefix Parts before class
BelowChosen depth prefix Parts (step.Optional class) before = OptionalChosen depth prefix Parts class
BelowChosen depth prefix Parts (step.Many class) before = AnyChosen depth prefix (λ p sofar. Parts p) class bare
BelowChosen depth prefix Parts (step.Some class) before =
    Followed (ClassChosen depth prefix Parts before class) (λ first. AnyChosen depth prefix (λ p sofar. Parts p) class bare)
BelowChosen depth prefix Parts (step.Pairs first second) before =
    AnyChosen depth prefix (λ p sofar. PairChosen depth prefix Parts (before ++ contents sofar) second p) first bare
BelowChosen depth prefix Parts _ before = Nothing

-- a step of a part below which so many trees stand, whose parts hold this: what it tells itself, and what it has below
pub record StepChosen (Below : Step → List Content → Reading) (prefix : List ℕ) (p : Part) (count : ℕ) (before : List Content) (s : template.Line) (old new : Told) (f : Forest) (text rest : List ℕ) : Type 0 where
  pub own : List ℕ
  pub tells : TellsOwn prefix p count s.1 s.0 old new text own
  pub reads : Below s.0 before f own rest

-- steps of a part, behind such trees
abbrev pub StepsChosen : (Step → List Content → Reading) → List ℕ → Part → Forest → List template.Line → Told → Told → Reading
StepsChosen Below prefix p before [] old new f text rest = (new ≡ old) × Nothing f text rest
StepsChosen Below prefix p before (s ∷ steps) old new f text rest =
    (told : Told) × Followed (StepChosen Below prefix p (tree_count before) (contents before) s old told) (λ now. StepsChosen Below prefix p (graft before now) steps told new) f text rest

-- all steps of a part
abbrev pub PartSteps : ℕ → List ℕ → (Part → Reading) → Part → Told → Reading
PartSteps depth prefix Parts p told = StepsChosen (BelowChosen depth prefix Parts) prefix p bare (steps_of p) untold told

-- what a part holds of which this is told
abbrev pub grown : Part → Told → Content
grown p told = record { part = p; holes = told.holes; numbers = told.numbers; notes = [] }

-- a part with all below it, where parts stand at most so deep in one another
unfoldable pub PartChosen : ℕ → List ℕ → Part → Reading
PartChosen zero prefix p f text rest = ⊥
PartChosen (suc depth) prefix p f text rest =
    (told : Told) × (below : Forest) × (f ≡ tree (grown p told) below bare) × (length told.holes ≡ hole_count p) × PartSteps depth prefix (PartChosen depth prefix) p told below text rest

-- what a step has below, where parts stand at most so deep in one another
abbrev pub Below : ℕ → List ℕ → Step → List Content → Reading
Below depth prefix = BelowChosen depth prefix (PartChosen depth prefix)

-- a program, behind which nothing is left that counts
abbrev pub WholeChosen : List ℕ → Reading
WholeChosen prefix f text rest = PartChosen 16 prefix part.Program f text rest × (settled rest ≡ [])

-- what a text is read as
pub record IsChosen (text : List ℕ) (program : Program) : Type 0 where
  pub rest : List ℕ
  pub shows : ShowsPrefix program.prefix text
  pub reads : WholeChosen program.prefix (whole program.entries.items) text rest

-- the program that a text is read as: it reads so, and this one is chosen
abbrev pub IsProgramOf : List ℕ → Program → Type 0
IsProgramOf text program = ReadsAs text program × IsChosen text program

-- under which prefix a text is read: the one that it shows, or `__`, where it shows none
abbrev pub IsReadUnder : List ℕ → List ℕ → Type 0
IsReadUnder text prefix = ShowsPrefix prefix text ⊎ ((prefix ≡ codes "__") × ((shown : List ℕ) → ShowsPrefix shown text → ⊥))

-- the lines of a text have numbers: it has one that counts, or too few to run out of numbers
abbrev pub HasNumbers : List ℕ → Type 0
HasNumbers text = settled text ≡ [] → feeds text + 1 < 2 ^ 64

-- why a text isn't read: under its prefix no program is chosen in any text with the same lines up to the one that is named; but where memory is wanting
abbrev pub IsRefused : List ℕ → ReadFault → Type 0
IsRefused text (fault.NoForm line) = HasNumbers text →
    (prefix : List ℕ) × IsReadUnder text prefix
    × ((other : List ℕ) → IsUtf8 other → Agree line other text → (program : Program) → program.prefix ≡ prefix → IsChosen other program → ⊥)
IsRefused text fault.Memory = Unit {0}
