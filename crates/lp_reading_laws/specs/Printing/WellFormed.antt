-- Programs that are well formed: their parts stand below one another as the templates say, and their texts are valid.
use Rattle.std.specs.Prelude.{◌≡◌, ℕ, ◌<◌, Bool, true, false, ◌&&◌, ◌==◌, if◌then◌else◌, min, List, [], ◌∷◌, ◌++◌, length, get_or, take, drop, replicate, codes, All, FitsSigned}
use Rattle.std.specs.Int.{w32}
use Rattle.std.specs.List.{prefix_len}
use Rattle.std.specs.Str.{IsUtf8, chars}
use Rattle.lp_form.specs.Templates.{steps_of, holes_of}
use Rattle.lp_form.specs.Templates as template
use Rattle.lp_form.specs.declared.part.Part.{Part}
use Rattle.lp_form.specs.declared.template.Kind.{Kind}
use Rattle.lp_form.specs.declared.template.Kind.TheVariants as kind
use Rattle.lp_form.specs.declared.template.Step.{Step}
use Rattle.lp_form.specs.declared.template.Step.TheVariants as step
use Rattle.lp_tok.specs.Cut.{StopsAt}
use Rattle.lp_tree.specs.declared.tree.Program.{Program}
use Rattle.lp_spelling.specs.Fillings.{Fills}
use Rattle.lp_spelling.specs.LineReading.{kind_of}
use Rattle.lp_program.specs.OwnLines.{hole}
use Rattle.lp_program.specs.Printed.{takes, takes_one}
use Rattle.lp_program.specs.Reads.{parts_in, may_have, hole_count, is_prefix, IsProgram}
use Rattle.lp_tree.specs.ProgramTree.{Note}
use Rattle.lp_program.specs.Trees.{Content, Forest, whole}
use Rattle.lp_program.specs.Trees.Forest.{bare, tree}
use Rattle.lp_reading_laws.specs.Printing.LineTexts.{IsSkipped, ends_open}

-- a pattern that begins a line must not be empty, since a blank would stand in front of it
abbrev pub is_pattern : Kind → Bool
is_pattern kind.Pattern = true
is_pattern kind.Patterns = true
is_pattern _ = false

-- each hole holds what it may, and no pattern is empty
abbrev pub HolesFill : List ℕ → List Kind → List (List ℕ) → Type 0
HolesFill prefix kinds holes = (k : ℕ) → k < length kinds → Fills prefix (kind_of kinds k) (get_or holes k []) × (is_pattern (kind_of kinds k) ≡ true → 0 < length (get_or holes k []))

-- how many of the parts in front a step takes
abbrev pub taken_in : Step → List Part → ℕ
taken_in s parts = if takes_one s then min 1 (prefix_len (takes s) parts) else prefix_len (takes s) parts

-- the parts below are shared out: each step takes those in front that belong to it, and may have them; none is left
abbrev pub is_shared : List template.Line → List Part → Bool
is_shared [] parts = length parts == 0
is_shared (s ∷ steps) parts =
    may_have s.0 (take (taken_in s.0 parts) parts) && is_shared steps (drop (taken_in s.0 parts) parts)

-- a use whose cut stops at its `;`, whatever stands on the lines behind
pub record IsUseText (text : List ℕ) : Type 0 where
  pub utf8 : IsUtf8 text
  pub stops : (rest : List ℕ) → StopsAt (chars (text ++ (codes ";" ++ 10 ∷ rest))) (chars (codes ";" ++ 10 ∷ rest))

-- user code whose cut stops at the `}` on the next line, whatever stands on the lines behind
abbrev pub IsCodeText : List ℕ → Type 0
IsCodeText text = (rest : List ℕ) → StopsAt (chars ((text ++ 10 ∷ []) ++ (125 ∷ 10 ∷ rest))) (chars (125 ∷ 10 ∷ rest))

-- blanks, and behind them nothing or a comment
pub record IsTrailing (text : List ℕ) : Type 0 where
  pub blanks : ℕ
  pub comment : List ℕ
  pub is : text ≡ replicate blanks 32 ++ comment
  pub skipped : IsSkipped comment

-- comment lines, which may begin with blanks, and what stands after the entries of a row
pub record IsNote (note : Note) : Type 0 where
  pub lines : All IsTrailing note.lines
  pub comments : All IsTrailing note.comments

-- none of its comment lines ends with an opening bracket, so they leave the indent as it was
abbrev pub IsSteady : Note → Type 0
IsSteady note = All (λ line. ends_open line ≡ false) note.lines

-- what a step prints that no line of a template tells
abbrev pub StepFits : Content → Step → Type 0
StepFits c step.Use = IsUseText (hole c 0)
StepFits c step.Code = IsCodeText (hole c 0)
StepFits c step.Entries = All (FitsSigned w32) c.numbers
StepFits c _ = Unit {0}

-- a part with these below it
pub record IsWellPart (prefix : List ℕ) (c : Content) (below : List Part) : Type 0 where
  pub count : length c.holes ≡ hole_count c.part
  pub fills : HolesFill prefix (holes_of c.part) c.holes
  pub shared : is_shared (steps_of c.part) below ≡ true
  pub steps : All (λ s. StepFits c s.0) (steps_of c.part)
  pub notes : All IsNote c.notes
  pub steady : All IsSteady c.notes

-- trees side by side
abbrev pub IsWell : List ℕ → Forest → Type 0
IsWell prefix bare = Unit {0}
IsWell prefix (tree c below after) = IsWellPart prefix c (parts_in below) × IsWell prefix below × IsWell prefix after

-- a program
pub record IsWellFormed (program : Program) : Type 0 where
  pub prefix_fits : is_prefix program.prefix ≡ true
  pub prefix_utf8 : IsUtf8 program.prefix
  pub first : IsProgram (whole program.entries.items)
  pub trees : IsWell program.prefix (whole program.entries.items)
