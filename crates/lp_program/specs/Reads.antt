-- The program that a text reads as: its parts take their lines off the text one after another, and nothing that counts is left.
use Rattle.std.specs.Prelude.{◌≡◌, ℕ, zero, suc, ◌+◌, ◌<◌, Bool, true, false, ◌&&◌, ◌==◌, nat_lt, nat_le, List, [], ◌∷◌, ◌++◌, length, get_or, Some, codes}
use Rattle.std.specs.List.{list_all}
use Rattle.lp_form.specs.Templates.{steps_of, holes_of, Piece}
use Rattle.lp_form.specs.Templates as template
use Rattle.lp_form.specs.declared.class.Class.{Class}
use Rattle.lp_form.specs.declared.part.Part.{Part}
use Rattle.lp_form.specs.declared.part.Part.TheVariants as part
use Rattle.lp_form.specs.declared.template.Step.{Step}
use Rattle.lp_form.specs.declared.template.Step.TheVariants as step
use Rattle.lp_tree.specs.declared.tree.Program.{Program}
use Rattle.lp_texts.specs.Identifiers.{is_identifier}
use Rattle.lp_spelling.specs.Lines.{line_of}
use Rattle.lp_program.specs.OwnLines.{hole}
use Rattle.lp_program.specs.Printed.{is_member}
use Rattle.lp_program.specs.Trees.{Content, Forest, whole, tree_count}
use Rattle.lp_program.specs.Trees.Forest.{bare, tree}
use Rattle.lp_spelling.specs.Counting.{settled, front_line, behind_line}
use Rattle.lp_program.specs.CodeReading.{IsUse, IsCode}
use Rattle.lp_spelling.specs.TableReading.{entries}
use Rattle.lp_spelling.specs.Fillings.{Fills}
use Rattle.lp_spelling.specs.LineReading.{kind_of}

-- the next line that counts is this one
pub record TakesLine (line text rest : List ℕ) : Type 0 where
  pub some : 0 < length (settled text)
  pub line_is : front_line (settled text) ≡ line
  pub rest_is : rest ≡ behind_line (settled text)

-- so many lines of one spelling
abbrev pub TakesLines : ℕ → List ℕ → List ℕ → List ℕ → Type 0
TakesLines zero line text rest = rest ≡ text
TakesLines (suc n) line text rest = (mid : List ℕ) × TakesLine line text mid × TakesLines n line mid rest

-- what a step itself takes off a text, where so many trees stand below its part so far; empty lines and comments don't count
abbrev pub TakesOwn : List ℕ → Content → ℕ → List Piece → Step → List ℕ → List ℕ → Type 0
TakesOwn prefix c below pieces (step.Line blanks) text rest = TakesLine (line_of prefix c.holes pieces) text rest
TakesOwn prefix c below pieces (step.Each blanks) text rest = TakesLines below (line_of prefix c.holes pieces) text rest
TakesOwn prefix c below pieces step.Use text rest = IsUse text (hole c 0) rest
TakesOwn prefix c below pieces step.Code text rest = IsCode text (hole c 0) rest
TakesOwn prefix c below pieces step.Entries text rest = entries text ≡ Some (c.numbers, rest)
TakesOwn prefix c below pieces step.Empty text rest = rest ≡ text
TakesOwn prefix c below pieces step.Note text rest = rest ≡ text
TakesOwn prefix c below pieces step.NoteAlways text rest = rest ≡ text
TakesOwn prefix c below pieces (step.One class) text rest = rest ≡ text
TakesOwn prefix c below pieces (step.Optional class) text rest = rest ≡ text
TakesOwn prefix c below pieces (step.Many class) text rest = rest ≡ text
TakesOwn prefix c below pieces (step.Some class) text rest = rest ≡ text
TakesOwn prefix c below pieces (step.Pairs first second) text rest = rest ≡ text

-- trees side by side, and others behind them
abbrev pub graft : Forest → Forest → Forest
graft bare behind = behind
graft (tree c below after) behind = tree c below (graft after behind)

abbrev pub parts_in : Forest → List Part
parts_in bare = []
parts_in (tree c below after) = c.part ∷ parts_in after

-- pairs of a part of one class and one of another
abbrev pub are_pairs : Class → Class → List Part → Bool
are_pairs first second [] = true
are_pairs first second (p ∷ []) = false
are_pairs first second (p ∷ q ∷ parts) = is_member first p && (is_member second q && are_pairs first second parts)

-- the parts that a step may have below: of its class, and as many as it says
abbrev pub may_have : Step → List Part → Bool
may_have (step.One class) parts = (length parts == 1) && list_all (is_member class) parts
may_have (step.Optional class) parts = nat_le (length parts) 1 && list_all (is_member class) parts
may_have (step.Many class) parts = list_all (is_member class) parts
may_have (step.Some class) parts = nat_lt 0 (length parts) && list_all (is_member class) parts
may_have (step.Pairs first second) parts = are_pairs first second parts
may_have _ parts = length parts == 0

-- one for a step that is a text of its own
abbrev pub is_text_step : Step → ℕ
is_text_step step.Use = 1
is_text_step step.Code = 1
is_text_step _ = 0

-- how many holes the steps have that no line tells: the texts of uses and of user code
abbrev pub text_steps : List template.Line → ℕ
text_steps [] = 0
text_steps (s ∷ others) = is_text_step s.0 + text_steps others

-- how many holes a part has
abbrev pub hole_count : Part → ℕ
hole_count p = length (holes_of p) + text_steps (steps_of p)

-- each hole of a kind holds what it may
abbrev pub KindsFill : List ℕ → Part → List (List ℕ) → Type 0
KindsFill prefix p holes = (k : ℕ) → k < length (holes_of p) → Fills prefix (kind_of (holes_of p) k) (get_or holes k [])

-- what is to be read: trees side by side; or the steps that are left of a part, where so many trees stand below it so
-- far, with the trees for them
pub data Task : Type 0 where
  trees : Forest → Task
  steps : Content → ℕ → List template.Line → Forest → Task

-- a task takes the front off a text: each part its steps, and each step its own lines and then the trees that it has
pub data Reads (prefix : List ℕ) : Task → List ℕ → List ℕ → Type 0 where
  no_tree : (text : List ℕ) → Reads prefix (trees bare) text text
  one_tree : (c : Content) (below after : Forest) (text mid rest : List ℕ) →
      length c.holes ≡ hole_count c.part → KindsFill prefix c.part c.holes →
      Reads prefix (steps c 0 (steps_of c.part) below) text mid → Reads prefix (trees after) mid rest →
      Reads prefix (trees (tree c below after)) text rest
  no_step : (c : Content) (count : ℕ) (text : List ℕ) → Reads prefix (steps c count [] bare) text text
  one_step : (c : Content) (count : ℕ) (s : template.Line) (others : List template.Line) (now later : Forest) (text own mid rest : List ℕ) →
      may_have s.0 (parts_in now) ≡ true → TakesOwn prefix c count s.1 s.0 text own → Reads prefix (trees now) own mid →
      Reads prefix (steps c (count + tree_count now) others later) mid rest → Reads prefix (steps c count (s ∷ others) (graft now later)) text rest

-- a prefix: not empty, and the front of names, as of that which the standard uses show
abbrev pub is_prefix : List ℕ → Bool
is_prefix prefix = nat_lt 0 (length prefix) && is_identifier (prefix ++ codes "lalrpop_util")

-- the first tree is a program's
abbrev pub IsProgram : Forest → Type 0
IsProgram bare = ⊥
IsProgram (tree c below after) = c.part ≡ part.Program

-- a text reads as a program
pub record ReadsAs (text : List ℕ) (program : Program) : Type 0 where
  pub rest : List ℕ
  pub prefix_fits : is_prefix program.prefix ≡ true
  pub first : IsProgram (whole program.entries.items)
  pub reads : Reads program.prefix (trees (whole program.entries.items)) text rest
  pub nothing_left : settled rest ≡ []
