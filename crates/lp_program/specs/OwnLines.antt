-- The lines of a step itself: those of its template, comments, user code and the rows of a table.
use Rattle.std.specs.Prelude.{ℕ, if◌then◌else◌, List, [], ◌∷◌, ◌++◌, map, get_or, replicate, codes}
use Rattle.std.specs.List.{flat_map}
use Rattle.std.specs.Str.{bytes_eq}
use Rattle.lp_form.specs.Templates.{Piece}
use Rattle.lp_form.specs.declared.template.Step.{Step}
use Rattle.lp_form.specs.declared.template.Step.TheVariants as step
use Rattle.lp_write.specs.Lines.{Line}
use Rattle.lp_write.specs.Lines.Line.{line, verbatim}
use Rattle.lp_write.specs.declared.rust.Options.{Options}
use Rattle.lp_spelling.specs.Lines.{line_of}
use Rattle.lp_tree.specs.ProgramTree.{Note}
use Rattle.lp_program.specs.Trees.{Content}
use Rattle.lp_program.specs.TableRows.{table_lines}

-- what a hole holds; nothing where there is none
abbrev pub hole : Content → ℕ → List ℕ
hole c k = get_or c.holes k []

-- a line of a template, with blanks in front
abbrev pub spelled : List ℕ → Content → ℕ → List Piece → Line
spelled prefix c blanks pieces = line (replicate blanks 32 ++ line_of prefix c.holes pieces)

-- the comment lines of notes
abbrev pub note_lines : List Note → List Line
note_lines notes = flat_map (λ n. map line n.lines) notes

-- user code; none is printed for `()`
abbrev pub code_lines : List ℕ → List Line
code_lines code = if bytes_eq code (codes "()") then [] else verbatim code ∷ []

-- the lines of a step itself, where so many trees stand directly below
abbrev pub own_lines : Options → List ℕ → Content → ℕ → List Piece → Step → List Line
own_lines options prefix c below pieces (step.Line blanks) = spelled prefix c blanks pieces ∷ []
own_lines options prefix c below pieces (step.Each blanks) = replicate below (spelled prefix c blanks pieces)
own_lines options prefix c below pieces step.Empty = line [] ∷ []
own_lines options prefix c below pieces step.Note = if options.comments then note_lines c.notes else []
own_lines options prefix c below pieces step.NoteAlways = note_lines c.notes
own_lines options prefix c below pieces step.Use = line (codes "use " ++ (hole c 0 ++ codes ";")) ∷ []
own_lines options prefix c below pieces step.Code = code_lines (hole c 0)
own_lines options prefix c below pieces step.Entries = table_lines options c.numbers c.notes
own_lines options prefix c below pieces (step.One class) = []
own_lines options prefix c below pieces (step.Optional class) = []
own_lines options prefix c below pieces (step.Many class) = []
own_lines options prefix c below pieces (step.Some class) = []
own_lines options prefix c below pieces (step.Pairs first second) = []
