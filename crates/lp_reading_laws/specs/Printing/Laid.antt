-- A text is a program's lines without comments and blanks, where what doesn't count is left aside.
use Rattle.std.specs.Prelude.{◌≡◌, ℕ, true, ℤ, List, [], ◌∷◌, ◌++◌, length, map, take, drop, replicate, Some}
use Rattle.std.specs.List.{flat_map}
use Rattle.lp_form.specs.Templates.{Piece, steps_of}
use Rattle.lp_form.specs.Templates as template
use Rattle.lp_form.specs.declared.part.Part.{Part}
use Rattle.lp_form.specs.declared.template.Step.{Step}
use Rattle.lp_form.specs.declared.template.Step.TheVariants as step
use Rattle.lp_spelling.specs.Counting.{settled}
use Rattle.lp_spelling.specs.Lines.{line_of}
use Rattle.lp_spelling.specs.TableReading.{entries}
use Rattle.lp_tree.specs.declared.tree.Program.{Program}
use Rattle.lp_program.specs.CodeReading.{IsUse, IsCode}
use Rattle.lp_program.specs.OwnLines.{hole}
use Rattle.lp_program.specs.Reads.{TakesLine, KindsFill, IsProgram, hole_count, is_prefix, parts_in}
use Rattle.lp_program.specs.Trees.{Content, Forest, tree_count, whole}
use Rattle.lp_program.specs.Trees.Forest.{bare, tree}
use Rattle.lp_reading_laws.specs.Printing.WellFormed.{taken_in, is_shared}

-- a passage, as what counts of a text is parted: a line, a use, user code, the entries of a table
pub data Passage : Type 0 where
  a_line : List ℕ → Passage
  a_use : List ℕ → Passage
  a_code : List ℕ → Passage
  a_table : List ℤ → Passage

-- it stands in front of a text: empty lines, comments and blanks in front of a line don't count, and in a table
-- neither do blanks, line ends and what follows `//` after an entry
abbrev pub StandsIn : Passage → List ℕ → List ℕ → Type 0
StandsIn (a_line line) text rest = TakesLine line text rest
StandsIn (a_use use_) text rest = IsUse text use_ rest
StandsIn (a_code code) text rest = IsCode text code rest
StandsIn (a_table numbers) text rest = entries text ≡ Some (numbers, rest)

-- passages, one after another
abbrev pub AllStand : List Passage → List ℕ → List ℕ → Type 0
AllStand [] text rest = rest ≡ text
AllStand (p ∷ ps) text rest = (mid : List ℕ) × StandsIn p text mid × AllStand ps mid rest

-- the passages of a step itself, as it prints its lines; it prints no others without comments, but empty ones
abbrev pub own_passages : List ℕ → Content → ℕ → List Piece → Step → List Passage
own_passages prefix c below pieces (step.Line blanks) = a_line (line_of prefix c.holes pieces) ∷ []
own_passages prefix c below pieces (step.Each blanks) = replicate below (a_line (line_of prefix c.holes pieces))
own_passages prefix c below pieces step.Use = a_use (hole c 0) ∷ []
own_passages prefix c below pieces step.Code = a_code (hole c 0) ∷ []
own_passages prefix c below pieces step.Entries = a_table c.numbers ∷ []
own_passages prefix c below pieces _ = []

-- a part with its passages
abbrev pub Laid : Type 0
Laid = Part × List Passage

abbrev pub laid_parts : List Laid → List Part
laid_parts below = map (λ p. p.0) below

abbrev pub all_passages : List Laid → List Passage
all_passages below = flat_map (λ p. p.1) below

-- the passages of steps, in the order of their lines: each has its own, and those of the parts that it takes
unfoldable pub step_passages : List ℕ → Content → ℕ → List template.Line → List Laid → List Passage
step_passages prefix c count [] below = []
step_passages prefix c count (s ∷ steps) below =
    let n = taken_in s.0 (laid_parts below) in
    own_passages prefix c count s.1 s.0 ++ (all_passages (take n below) ++ step_passages prefix c count steps (drop n below))

-- the parts of trees side by side, each with its passages
unfoldable pub passages : List ℕ → Forest → List Laid
passages prefix bare = []
passages prefix (tree c below after) =
    (c.part, step_passages prefix c (tree_count below) (steps_of c.part) (passages prefix below)) ∷ passages prefix after

-- a part with these below it: its holes are told and hold what they may, and its steps share the parts
pub record IsShapedPart (prefix : List ℕ) (c : Content) (below : List Part) : Type 0 where
  pub count : length c.holes ≡ hole_count c.part
  pub fills : KindsFill prefix c.part c.holes
  pub shared : is_shared (steps_of c.part) below ≡ true

-- trees side by side
unfoldable pub IsShaped : List ℕ → Forest → Type 0
IsShaped prefix bare = Unit {0}
IsShaped prefix (tree c below after) = IsShapedPart prefix c (parts_in below) × IsShaped prefix below × IsShaped prefix after

-- a text is the passages of a program, and behind them nothing counts
pub record IsLaidOut (text : List ℕ) (program : Program) : Type 0 where
  pub prefix_fits : is_prefix program.prefix ≡ true
  pub first : IsProgram (whole program.entries.items)
  pub shaped : IsShaped program.prefix (whole program.entries.items)
  pub rest : List ℕ
  pub stand : AllStand (all_passages (passages program.prefix (whole program.entries.items))) text rest
  pub nothing_left : settled rest ≡ []
