-- Rows of a table: one row more.
use Rattle.std.proofs.Common.{◌≡◌, Bool, ℕ, ◌+◌, ◌<◌, ℤ, List, [], ◌∷◌, ◌++◌, length, map, get_or, drop, add-one, sym, ap, ◌∙◌}
use Rattle.std.proofs.Math.Seq.{drop-cons}
use Rattle.std.proofs.lemmas.List.{append_assoc, map-append}
use Rattle.lp_repr.specs.declared.repr.Grammar.{Grammar}
use Rattle.lp_tree.specs.ProgramTree.{Note, noted}
use Rattle.lp_tree.specs.declared.tree.RowNote.{RowNote}
use Rattle.lp_notes.specs.Notes.{end_row, end_rows}

pub rows_more : (comments : Bool) (g : Grammar) (rows : List RowNote) (row : RowNote) (place : ℕ) (entries : List ℤ) (d : ℤ) → place < length entries → noted row ≡ end_row comments g (place + 1) (get_or entries place d) →
    map noted (rows ++ row ∷ []) ++ end_rows comments g (place + 1) (drop (place + 1) entries) ≡ map noted rows ++ end_rows comments g place (drop place entries)
rows_more comments g rows row place entries d within is =
    let later : List Note = end_rows comments g (place + 1) (drop (place + 1) entries) in
    let left : drop place entries ≡ get_or entries place d ∷ drop (place + 1) entries =
    drop-cons entries place d within ∙ ap (λ (k : ℕ). get_or entries place d ∷ drop k entries) (sym (add-one place)) in
    ap (λ (l : List Note). l ++ later) (map-append noted rows (row ∷ []))
    ∙ append_assoc (map noted rows) (noted row ∷ []) later
    ∙ ap (λ (n : Note). map noted rows ++ (n ∷ later)) is
    ∙ ap (λ (l : List ℤ). map noted rows ++ end_rows comments g place l) (sym left)
