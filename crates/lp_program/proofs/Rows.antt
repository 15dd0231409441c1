-- The rows of a table, one after another, and the entries of a row.
use Rattle.std.proofs.Common.{◌≡◌, ℕ, ◌+◌, ◌-◌, ◌<◌, ◌≤◌, ℤ, Bool, true, false, if◌then◌else◌, min, max, List, [], ◌∷◌, ◌++◌, length, map, take, drop, get_or, Some, Bor, refl, sym, ap, ◌∙◌, arith, length-drop, subst, codes}
use Rattle.std.proofs.lemmas.List.{at_drop_all, at_drop_more, drop-drop, length-take-le}
use Rattle.std.specs.List.{flat_map}
use Rattle.std.specs.Fmt.{signed_decimal}
use Rattle.lp_write.specs.Lines.{Line}
use Rattle.lp_write.specs.Lines.Line.{line, verbatim}
use Rattle.lp_write.specs.Rows.{entry_piece, row_text, AreEntryTexts}
use Rattle.lp_write.specs.Writes.{Writing, Writes, Ending}
use Rattle.lp_write.specs.declared.rust.Options.{Options}
use Rattle.lp_tree.specs.declared.tree.RowNote.{RowNote}
use Rattle.lp_program.specs.TableRows.{entry_line, entry_lines, last_lines, row_entry, row_lines, rows_from}
use Rattle.lp_program.proofs.Printing.{take-capped}
use Rattle.lp_tree.specs.ProgramTree.{Note, noted}

-- the numbers of a row on one line, whatever stands beside them
row-text : (w : Bool) (row : List (ℤ × Bor (List ℕ))) → row_text w row ≡ row_text w (map row_entry row)
row-text w [] = refl
row-text w (entry ∷ row) = ap (λ l. entry_piece entry ++ l) (behind (if w then codes " " else []) row) where
  behind : (sep : List ℕ) (row : List (ℤ × Bor (List ℕ))) →
      flat_map (λ y. sep ++ entry_piece y) row ≡ flat_map (λ y. sep ++ entry_piece y) (map row_entry row)
  behind sep [] = refl
  behind sep (entry ∷ row) = ap (λ l. (sep ++ entry_piece entry) ++ l) (behind sep row)

-- the entries of a row with their comments
row-texts : (row : List (ℤ × Bor (List ℕ))) (texts : List (List ℕ)) → AreEntryTexts (λ s. Some s.now) row texts →
    map verbatim texts ≡ map entry_line (map row_entry row)
row-texts [] [] z = refl
row-texts [] (text ∷ texts) z = absurd z
row-texts (entry ∷ row) [] z = absurd z
row-texts (entry ∷ row) (text ∷ texts) z =
    ap (λ (t : List ℕ). verbatim t ∷ map verbatim texts) (z.0.2 ∙ ap (λ (c : List ℕ). signed_decimal entry.0 ++ (codes ", " ++ c)) z.0.1)
    ∙ ap (λ (l : List Line). entry_line (row_entry entry) ∷ l) (row-texts row texts z.1)

-- a row's entries were written, with comments or without
pub entries-written : (e : Ending) (a b : Writing) (row : List (ℤ × Bor (List ℕ))) (entries : List (ℤ × List ℕ)) → map row_entry row ≡ entries →
    (a.options.comments ≡ false → Writes e a b (verbatim (row_text a.options.whitespace row) ∷ [])) →
    (a.options.comments ≡ true → (texts : List (List ℕ)) × AreEntryTexts (λ s. Some s.now) row texts × Writes e a b (map verbatim texts ++ line [] ∷ [])) →
    Writes e a b (entry_lines a.options entries)
entries-written e a b row entries is plain commented = choose a.options.comments refl where
  choose : (c : Bool) → a.options.comments ≡ c →
      Writes e a b (if c then map entry_line entries ++ line [] ∷ [] else verbatim (row_text a.options.whitespace entries) ∷ [])
  choose false h = subst (λ (t : List ℕ). Writes e a b (verbatim t ∷ [])) (row-text a.options.whitespace row ∙ ap (row_text a.options.whitespace) is) (plain h)
  choose true h =
      let t = commented h in
      subst (λ (l : List Line). Writes e a b (l ++ line [] ∷ [])) (row-texts row t.0 t.1 ∙ ap (map entry_line) is) t.2

-- the row of the next note, and those after it
pub rows-next : (o : Options) (numbers : List ℤ) (notes : List RowNote) (i from end : ℕ) (n : RowNote) → n ≡ get_or notes i n → i < length notes →
    from ≤ length numbers → end ≡ max (min n.end (length numbers)) from →
    rows_from o i from (drop from numbers) (map noted (drop i notes))
    ≡ row_lines o i (take (end - from) (drop from numbers)) (noted n) ++ rows_from o (i + 1) end (drop end numbers) (map noted (drop (i + 1) notes))
unfolding rows_from
rows-next o numbers notes i from end n e h f k =
    let rest : List Note = map noted (drop (i + 1) notes) in
    let all : List ℤ = drop from numbers in
    let d : length all ≡ length numbers - from = length-drop from numbers in
    let row : take (end - from) all ≡ take (n.end - from) all = take-capped (end - from) (n.end - from) all (omega (arith, d)) in
    let size : length (take (end - from) all) ≡ end - from = length-take-le (end - from) all (omega (arith, d)) in
    let to : from + length (take (end - from) all) ≡ end = omega (arith, size) in
    let left : drop (length (take (end - from) all)) all ≡ drop end numbers
    = drop-drop (length (take (end - from) all)) from numbers ∙ ap (λ m. drop m numbers) to in
    at_drop_more (λ l. rows_from o i from all (map noted l)) notes i n h
    ∙ ap (λ (m : RowNote). rows_from o i from all (noted m ∷ rest)) (sym e)
    ∙ ap (λ (l : List ℤ). row_lines o i l (noted n) ++ rows_from o (i + 1) (from + length l) (drop (length l) all) rest) (sym row)
    ∙ ap (λ (m : ℕ). row_lines o i (take (end - from) all) (noted n) ++ rows_from o (i + 1) m (drop (length (take (end - from) all)) all) rest) to
    ∙ ap (λ (l : List ℤ). row_lines o i (take (end - from) all) (noted n) ++ rows_from o (i + 1) end l rest) left

-- the row of what the notes leave
pub rows-last : (o : Options) (numbers : List ℤ) (notes : List RowNote) (i from : ℕ) → length notes ≤ i → i ≤ length notes →
    rows_from o i from (drop from numbers) (map noted (drop i notes)) ≡ last_lines o (length notes) (drop from numbers)
unfolding rows_from
rows-last o numbers notes i from h k =
    at_drop_all (λ l. rows_from o i from (drop from numbers) (map noted l)) notes i h
    ∙ (let e : i ≡ length notes = omega arith in ap (λ m. last_lines o m (drop from numbers)) e)
