-- The lines of a table: its rows, each with the number of its state.
use Rattle.std.specs.Prelude.{ℕ, ℤ, ◌+◌, ◌-◌, not, ◌&&◌, ◌==◌, if◌then◌else◌, List, [], ◌∷◌, ◌++◌, length, map, take, drop, codes}
use Rattle.std.specs.Fmt.{decimal, signed_decimal}
use denote.Ref.{Bor}
use Rattle.lp_write.specs.Lines.{Line}
use Rattle.lp_write.specs.Lines.Line.{line, verbatim}
use Rattle.lp_write.specs.Rows.{row_text}
use Rattle.lp_write.specs.declared.rust.Options.{Options}
use Rattle.lp_tree.specs.ProgramTree.{Note}

-- an entry with its comment as it stands behind the code's reference
abbrev pub row_entry : ℤ × Bor (List ℕ) → ℤ × List ℕ
row_entry entry = (entry.0, entry.1.now)

-- entries, each with its comment, or with none where the comments have ended
abbrev pub commented : List ℤ → List (List ℕ) → List (ℤ × List ℕ)
commented [] comments = []
commented (n ∷ numbers) [] = (n, []) ∷ commented numbers []
commented (n ∷ numbers) (c ∷ comments) = (n, c) ∷ commented numbers comments

-- an entry with its comment
abbrev pub entry_line : ℤ × List ℕ → Line
entry_line entry = verbatim (signed_decimal entry.0 ++ (codes ", " ++ entry.1))

-- the entries of a row: on one line, or with comments one a line and an empty line
abbrev pub entry_lines : Options → List (ℤ × List ℕ) → List Line
entry_lines options entries =
    if options.comments
    then map entry_line entries ++ line [] ∷ []
    else verbatim (row_text options.whitespace entries) ∷ []

-- a row: the number of its state, its comment lines, and its entries
abbrev pub row_lines : Options → ℕ → List ℤ → Note → List Line
row_lines options state numbers note =
    line (codes "// State " ++ decimal state)
    ∷ ((if options.comments then map line note.lines else []) ++ entry_lines options (commented numbers note.comments))

-- a row that has no note
abbrev pub no_note : Note
no_note = record { end = 0; lines = []; comments = [] }

-- the row of what the notes leave: none where nothing is left behind other rows
abbrev pub last_lines : Options → ℕ → List ℤ → List Line
last_lines options state left =
    if length left == 0 && not (state == 0) then [] else row_lines options state left no_note

-- the rows from a state on, where so many entries stand before them and these are left: each note ends one
unfoldable pub rows_from : Options → ℕ → ℕ → List ℤ → List Note → List Line
rows_from options state before left [] = last_lines options state left
rows_from options state before left (n ∷ notes) =
    let row = take (n.end - before) left in
    row_lines options state row n ++ rows_from options (state + 1) (before + length row) (drop (length row) left) notes

-- the rows of a table
abbrev pub table_lines : Options → List ℤ → List Note → List Line
table_lines options numbers notes = rows_from options 0 0 numbers notes
