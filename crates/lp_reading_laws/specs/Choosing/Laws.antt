-- What the laws say: a reader that looks ahead reads what a text reads as, where holes are parted and the bodies of actions are told.
use Rattle.std.specs.Prelude.{◌≡◌, ℕ, Bool, true, false, if◌then◌else◌, List, [], ◌∷◌, ◌++◌, get_or}
use Rattle.std.specs.List.{list_any}
use Rattle.std.specs.Str.{IsUtf8}
use Rattle.lp_form.specs.Templates.{steps_of}
use Rattle.lp_form.specs.Templates as template
use Rattle.lp_form.specs.declared.part.Part.{Part}
use Rattle.lp_form.specs.declared.part.Part.TheVariants as part
use Rattle.lp_form.specs.declared.template.Step.{Step}
use Rattle.lp_form.specs.declared.template.Step.TheVariants as step
use Rattle.lp_spelling.specs.Counting.{settled, front_line}
use Rattle.lp_tree.specs.declared.tree.Program.{Program}
use Rattle.lp_reading_laws.specs.Holes.Found.{are_words}
use Rattle.lp_reading_laws.specs.Holes.Inlined.{begins_inlined}
use Rattle.lp_reading_laws.specs.Texts.Laws.{AreParted}
use Rattle.lp_program.specs.CodeReading.{IsCode}
use Rattle.lp_program.specs.declared.read.reader.Parameters.{Parameters}
use Rattle.lp_program.specs.declared.read.reader.Parameters.TheVariants as parameters
use Rattle.lp_program.specs.Reads.{Reads, ReadsAs}
use Rattle.lp_program.specs.Reads.Task.{trees}
use Rattle.lp_program.specs.Trees.{Content, Forest, whole}
use Rattle.lp_program.specs.Trees.Forest.{bare, tree}
use Rattle.lp_program.specs.Choosing.{IsUnread, contents, InlinedChosen, PartChosen, IsChosen, IsRefused}
use Rattle.lp_program.specs.declared.read.reader.ReadFault.TheVariants as fault
use Rattle.lp_program.specs.Parameters.{last_parameter, parameters_of}
use Rattle.lp_program.specs.Prefixes.{ShowsPrefix}

-- a step that is a table
abbrev pub is_table : Step → Bool
is_table step.Entries = true
is_table _ = false

abbrev pub have_table : List template.Line → Bool
have_table steps = list_any (λ s. is_table s.0) steps

-- what a text tells of a part: its holes, and its entries, where it has a table; no notes
abbrev pub told_content : Content → Content
told_content c = record { part = c.part; holes = c.holes; numbers = if have_table (steps_of c.part) then c.numbers else []; notes = [] }

abbrev pub told_trees : Forest → Forest
told_trees bare = bare
told_trees (tree c below after) = tree (told_content c) (told_trees below) (told_trees after)

-- where user code stands in a text, no inlined actions are read
abbrev pub IsNoInlined : List ℕ → List ℕ → List ℕ → Type 0
IsNoInlined prefix text code = (depth : ℕ) (front left rest : List ℕ) → text ≡ front ++ left → IsCode left code rest → IsUnread (InlinedChosen (PartChosen depth prefix)) left

-- user code is told by these parameters, and inlined actions
abbrev pub IsUserTold : List ℕ → List ℕ → Parameters → List ℕ → Type 0
IsUserTold prefix text parameters.User code = Unit {0}
IsUserTold prefix text parameters.Inlined code = ⊥
IsUserTold prefix text parameters.None code = IsNoInlined prefix text code

abbrev pub IsInlinedTold : Parameters → Type 0
IsInlinedTold parameters.User = ⊥
IsInlinedTold parameters.Inlined = Unit {0}
IsInlinedTold parameters.None = Unit {0}

-- where a part is the body of an action, these parameters tell which
abbrev pub IsBodyTold : List ℕ → List ℕ → Parameters → Part → List (List ℕ) → Type 0
IsBodyTold prefix text whose part.UserBody holes = IsUserTold prefix text whose (get_or holes 0 [])
IsBodyTold prefix text whose part.InlineBody holes = IsInlinedTold whose
IsBodyTold prefix text whose _ holes = Unit {0}

-- all bodies of actions in trees, behind parts that hold this, are told by the last parameter in front of them
abbrev pub BodiesTold : List ℕ → List ℕ → List Content → Forest → Type 0
BodiesTold prefix text before bare = Unit {0}
BodiesTold prefix text before (tree c below after) =
    IsBodyTold prefix text (parameters_of prefix (last_parameter [] before)) c.part c.holes
    × BodiesTold prefix text [] below
    × BodiesTold prefix text (before ++ (c ∷ contents below)) after

-- where the next line begins as none of these, no inlined actions are read
abbrev pub OthersAreNoInlined : Type 0
OthersAreNoInlined = (prefix text : List ℕ) (depth : ℕ) → begins_inlined prefix (front_line (settled text)) ≡ false → IsUnread (InlinedChosen (PartChosen depth prefix)) text

-- what a text reads as, as far as the text tells it, is chosen: the tree of a program under a prefix of word bytes
abbrev pub TreesAreChosen : Type 0
TreesAreChosen = (prefix : List ℕ) (c : Content) (below : Forest) (text rest : List ℕ) → are_words prefix ≡ true → IsUtf8 text → c.part ≡ part.Program → AreParted prefix (tree c below bare) → BodiesTold prefix text [] (told_trees (tree c below bare)) →
    Reads prefix (trees (tree c below bare)) text rest → PartChosen 16 prefix part.Program (told_trees (tree c below bare)) text rest

-- a text that reads as a program shows its prefix
abbrev pub PrefixesAreShown : Type 0
PrefixesAreShown = (text : List ℕ) (program : Program) → IsUtf8 text → ReadsAs text program → ShowsPrefix program.prefix text

-- a text reads as a program whose holes are parted and whose bodies of actions are told
pub record ReadsTold (text : List ℕ) (program : Program) : Type 0 where
  pub reads : ReadsAs text program
  pub parted : AreParted program.prefix (whole program.entries.items)
  pub bodies : BodiesTold program.prefix text [] (told_trees (whole program.entries.items))

-- it is chosen as each program that has this prefix and these trees, as far as the text tells them
abbrev pub ProgramsAreChosen : Type 0
ProgramsAreChosen = (text : List ℕ) (program told : Program) → IsUtf8 text → ReadsTold text program → told.prefix ≡ program.prefix → whole told.entries.items ≡ told_trees (whole program.entries.items) → IsChosen text told

-- each program has one that is as the text tells it, so that a program is chosen in the text
abbrev pub EachIsTold : Type 0
EachIsTold = (program : Program) → (told : Program) × (told.prefix ≡ program.prefix) × (whole told.entries.items ≡ told_trees (whole program.entries.items))

abbrev pub SomeIsChosen : Type 0
SomeIsChosen = (text : List ℕ) (program : Program) → IsUtf8 text → ReadsTold text program → (told : Program) × IsChosen text told

-- it reads so as no other program, as far as it tells them
abbrev pub ProgramsAreOne : Type 0
ProgramsAreOne = (text : List ℕ) (program other : Program) → IsUtf8 text → ReadsTold text program → ReadsTold text other →
    (program.prefix ≡ other.prefix) × (told_trees (whole program.entries.items) ≡ told_trees (whole other.entries.items))

-- what is chosen in it is that program, as far as the text tells it
abbrev pub ChosenIsIt : Type 0
ChosenIsIt = (text : List ℕ) (program chosen : Program) → IsUtf8 text → ReadsTold text program → IsChosen text chosen → (chosen.prefix ≡ program.prefix) × (whole chosen.entries.items ≡ told_trees (whole program.entries.items))

-- so it is refused only for want of memory
abbrev pub NeverRefused : Type 0
NeverRefused = (text : List ℕ) (program : Program) (line : ℕ) → IsUtf8 text → ReadsTold text program → IsRefused text (fault.NoForm line) → ⊥
