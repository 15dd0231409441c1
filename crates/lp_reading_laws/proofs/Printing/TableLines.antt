-- The rows of a table are read as its numbers.
use Rattle.std.proofs.Common.{◌≡◌, ℕ, ℤ, pos, negsuc, ◌+◌, ◌-◌, ◌^◌, ◌==◌, ◌<◌, suc, Bool, true, false, not, ◌&&◌, if◌then◌else◌, List, [], ◌∷◌, ◌++◌, length, map, take, drop, replicate, codes, All, Some, refl, sym, ap, ◌∙◌, subst, arith, inl, inr, append_assoc, append-nil, length-take, take-append-drop, FitsSigned, w32}
use Rattle.std.specs.Fmt.{decimal, signed_decimal}
use Rattle.std.specs.List.{join_by, flat_map, list_all}
use Rattle.std.specs.Str.{chars}
use Rattle.std.proofs.lemmas.Bool.{and_parts, cases_Bool, cond-true, cond-false, eqb-true}
use Rattle.std.proofs.lemmas.List.Elements.{All-nil, All-cons, All-take, All-drop}
use Rattle.std.proofs.lemmas.List.{drop_min, nil_from_length}
use Rattle.lp_write.specs.Lines.{Line, lines_bytes, line_bytes, indent_after, indent_after_all}
use Rattle.lp_write.specs.Lines.Line.{line, verbatim}
use Rattle.lp_write.specs.Rows.{row_text, entry_piece}
use Rattle.lp_write.specs.declared.rust.Options.{Options}
use Rattle.lp_spelling.specs.TableReading.{entries}
use Rattle.lp_reading_laws.specs.Printing.LineTexts.{IsSkipped}
use Rattle.lp_reading_laws.specs.Printing.WellFormed.{IsTrailing, IsNote}
use Rattle.lp_program.specs.TableRows.{commented, entry_line, entry_lines, row_lines, no_note, last_lines, rows_from, table_lines}
use Rattle.lp_reading_laws.proofs.Printing.Lining.{laid, on_line-append}
use Rattle.std.specs.Char.{is_whitespace}
use Rattle.std.proofs.lemmas.Bool.{or_right}
use Rattle.std.proofs.lemmas.Fmt.{IsAscii-decimal}
use Rattle.std.proofs.lemmas.Str.{IsUtf8-append, IsUtf8-from_ascii}
use Rattle.lp_reading_laws.proofs.Printing.OnLine.{digits-on_line}
use Rattle.lp_reading_laws.proofs.Printing.Fronts.{ascii_begins}
use Rattle.lp_reading_laws.proofs.Printing.Sound.{plain_ascii}
use Rattle.lp_reading_laws.proofs.Printing.Bytes.{any_laid, bytes-split, bytes-first, trailing_laid, skipped_trails}
use Rattle.lp_reading_laws.proofs.Printing.Numbers.{IsSmall, decimal_digits}
use Rattle.lp_reading_laws.proofs.Printing.Entries.{Gives, gives_then, gives_none, gives_one, gives_more, gives_feed, gives_blanks, gives_entries}
use Rattle.lp_tree.specs.ProgramTree.{Note}

-- numbers of 32 bits
small : (z : ℤ) → FitsSigned w32 z → IsSmall z
small (pos n) f = f.sfits
small (negsuc n) f = f.sfits

-- lines that don't count
skipped_give : (w : Bool) (i : ℕ) (ls : List (List ℕ)) (tail : List ℕ) → All IsTrailing ls → Gives true (lines_bytes w i (map line ls) ++ tail) [] tail
skipped_give w i [] tail h = λ t r. r
skipped_give w i (l ∷ ls) tail h =
    let rest : List ℕ = lines_bytes w (indent_after i (line l)) (map line ls) ++ tail in
    let at = any_laid w i (line l) rest in
    let first = h 0 l (omega arith) in
    let here : Gives true (laid at.count l rest) [] rest = subst (λ x. Gives true x [] rest) (sym (trailing_laid at.count l rest first)) (gives_none (at.count + first.blanks) first.comment rest first.skipped.0.on_line first.skipped.1) in
    let all : Gives true (laid at.count l rest) [] tail = gives_then true (laid at.count l rest) rest tail [] [] here (skipped_give w (indent_after i (line l)) ls tail (λ k d lt. h (suc k) d (omega arith))) in
    subst (λ x. Gives true x [] tail) (sym (bytes-first w i (line l) (map line ls) tail ∙ at.is)) all

-- the entries of a row with comments, one a line
abbrev Fits : ℤ × List ℕ → Type 0
Fits e = IsSmall e.0 × IsTrailing e.1

one_gives : (w : Bool) (i : ℕ) (e : ℤ × List ℕ) (rest : List ℕ) → Fits e → Gives true (line_bytes w i (entry_line e) ++ rest) (e.0 ∷ []) rest
one_gives w i e rest h =
    let at = any_laid w i (entry_line e) rest in
    let text : signed_decimal e.0 ++ (codes ", " ++ e.1) ≡ signed_decimal e.0 ++ (44 ∷ (replicate (suc h.1.blanks) 32 ++ h.1.comment)) = ap (λ x. signed_decimal e.0 ++ (codes ", " ++ x)) h.1.is in
    subst (λ x. Gives true x (e.0 ∷ []) rest) (sym (at.is ∙ ap (λ x. laid at.count x rest) text))
    (gives_one at.count (suc h.1.blanks) e.0 h.1.comment rest h.0 h.1.skipped.0.on_line h.1.skipped.1)

lines_give : (w : Bool) (i : ℕ) (es : List (ℤ × List ℕ)) (rest : List ℕ) → All Fits es → Gives true (lines_bytes w i (map entry_line es) ++ rest) (map (λ e. e.0) es) rest
lines_give w i [] rest h = λ t r. r
lines_give w i (e ∷ es) rest h =
    let mid : List ℕ = lines_bytes w (indent_after i (entry_line e)) (map entry_line es) ++ rest in
    let here : Gives true (line_bytes w i (entry_line e) ++ mid) (e.0 ∷ []) mid = one_gives w i e mid (h 0 e (omega arith)) in
    subst (λ x. Gives true x (e.0 ∷ map (λ y. y.0) es) rest) (sym (bytes-first w i (entry_line e) (map entry_line es) rest))
    (gives_then true (line_bytes w i (entry_line e) ++ mid) mid rest (e.0 ∷ []) (map (λ y. y.0) es) here
    (lines_give w (indent_after i (entry_line e)) es rest (λ k d lt. h (suc k) d (omega arith))))

-- the entries of a row on one line
abbrev separator : Bool → List ℕ
separator w = if w then codes " " else []

separated : (w : Bool) (text rest : List ℕ) (numbers : List ℤ) → Gives false text numbers rest → Gives false (separator w ++ text) numbers rest
separated true text rest numbers g = gives_blanks 1 false text rest numbers g
separated false text rest numbers g = g

more_give : (w : Bool) (es : List (ℤ × List ℕ)) (rest : List ℕ) → All Fits es →
    Gives false (flat_map (λ y. separator w ++ entry_piece y) es ++ 10 ∷ rest) (map (λ e. e.0) es) rest
more_give w [] rest h = gives_feed false rest
more_give w (e ∷ es) rest h =
    let mid : List ℕ = flat_map (λ y. separator w ++ entry_piece y) es ++ 10 ∷ rest in
    let next = more_give w es rest (λ k d lt. h (suc k) d (omega arith)) in
    let here = separated w (signed_decimal e.0 ++ 44 ∷ mid) rest (e.0 ∷ map (λ y. y.0) es) (gives_more false e.0 mid rest (map (λ y. y.0) es) (h 0 e (omega arith)).0 next) in
    let whole : flat_map (λ y. separator w ++ entry_piece y) (e ∷ es) ++ 10 ∷ rest ≡ separator w ++ (signed_decimal e.0 ++ 44 ∷ mid) = simp append_assoc in
    subst (λ x. Gives false x (e.0 ∷ map (λ y. y.0) es) rest) (sym whole) here

row_gives : (w : Bool) (es : List (ℤ × List ℕ)) (rest : List ℕ) → All Fits es → Gives true (row_text w es ++ 10 ∷ rest) (map (λ e. e.0) es) rest
row_gives w [] rest h = gives_feed true rest
row_gives w (e ∷ es) rest h =
    let mid : List ℕ = flat_map (λ y. separator w ++ entry_piece y) es ++ 10 ∷ rest in
    let next = more_give w es rest (λ k d lt. h (suc k) d (omega arith)) in
    let here = gives_more true e.0 mid rest (map (λ y. y.0) es) (h 0 e (omega arith)).0 next in
    let whole : row_text w (e ∷ es) ++ 10 ∷ rest ≡ signed_decimal e.0 ++ 44 ∷ mid = simp append_assoc in
    subst (λ x. Gives true x (e.0 ∷ map (λ y. y.0) es) rest) (sym whole) here

-- the entries of a row
pub empty_skipped : IsSkipped []
empty_skipped = (record { utf8 = Rattle.std.proofs.lemmas.Str.IsUtf8-nil; on_line = refl; shown = ap (Rattle.lp_texts.specs.OneLine.begins Rattle.std.specs.Char.is_whitespace) Rattle.std.proofs.lemmas.Str.chars-nil }, refl)

pub no_trailing : IsTrailing []
no_trailing = skipped_trails [] empty_skipped

entries_give : (options : Options) (i : ℕ) (es : List (ℤ × List ℕ)) (rest : List ℕ) → All Fits es → Gives true (lines_bytes options.whitespace i (entry_lines options es) ++ rest) (map (λ e. e.0) es) rest
entries_give options i es rest h =
    let w : Bool = options.whitespace in
    elim (cases_Bool options.comments) [
      | inl y ↦
          let lines_are : entry_lines options es ≡ map entry_line es ++ line [] ∷ [] = cond-true options.comments _ _ y in
          let j : ℕ = indent_after_all i (map entry_line es) in
          let last : Gives true (lines_bytes w j (line [] ∷ []) ++ rest) [] rest =
          skipped_give w j ([] ∷ []) rest (All-cons IsTrailing [] [] no_trailing (All-nil IsTrailing)) in
          let first = lines_give w i es (lines_bytes w j (line [] ∷ []) ++ rest) h in
          let both = gives_then true _ (lines_bytes w j (line [] ∷ []) ++ rest) rest (map (λ e. e.0) es) [] first last in
          let numbers : map (λ e. e.0) es ++ [] ≡ map (λ e. e.0) es = append-nil (map (λ e. e.0) es) in
          subst (λ x. Gives true (lines_bytes w i x ++ rest) (map (λ e. e.0) es) rest) (sym lines_are)
          (subst (λ x. Gives true x (map (λ e. e.0) es) rest) (sym (bytes-split w i (map entry_line es) (line [] ∷ []) rest))
          (subst (λ x. Gives true (lines_bytes w i (map entry_line es) ++ (lines_bytes w j (line [] ∷ []) ++ rest)) x rest) numbers both))
      | inr n ↦
          let lines_are : entry_lines options es ≡ verbatim (row_text w es) ∷ [] = cond-false options.comments _ _ n in
          let at = any_laid w i (verbatim (row_text w es)) rest in
          let whole : lines_bytes w i (verbatim (row_text w es) ∷ []) ++ rest ≡ replicate at.count 32 ++ (row_text w es ++ 10 ∷ rest) =
          bytes-first w i (verbatim (row_text w es)) [] rest ∙ at.is ∙ append_assoc (replicate at.count 32) (row_text w es) (10 ∷ rest) in
          subst (λ x. Gives true (lines_bytes w i x ++ rest) (map (λ e. e.0) es) rest) (sym lines_are)
          (subst (λ x. Gives true x (map (λ e. e.0) es) rest) (sym whole)
          (gives_blanks at.count true (row_text w es ++ 10 ∷ rest) rest (map (λ e. e.0) es) (row_gives w es rest h)))
    ]

-- the number of a state
state_skipped : (n : ℕ) → n < 2 ^ 64 → IsSkipped (codes "// State " ++ decimal n)
state_skipped n h = (
  record {
    utf8 = IsUtf8-append (codes "// State ") (decimal n) (IsUtf8-from_ascii (codes "// State ") (plain_ascii (codes "// State ") refl)) (IsUtf8-from_ascii (decimal n) (IsAscii-decimal n h));
    on_line = on_line-append (codes "// State ") (decimal n) refl (digits-on_line (decimal n) (decimal_digits n h));
    shown = ascii_begins is_whitespace 47 (codes "/ State " ++ decimal n) (omega arith);
  },
  or_right (length (codes "// State " ++ decimal n) == 0) _ refl,
)

-- entries with their comments
commented_fits : (ns : List ℤ) (cs : List (List ℕ)) → All (FitsSigned w32) ns → All IsTrailing cs → All Fits (commented ns cs)
commented_fits [] cs f g = λ k d lt. absurd (omega arith)
commented_fits (n ∷ ns) [] f g =
    All-cons Fits (n, []) (commented ns []) (small n (f 0 n (omega arith)), no_trailing) (commented_fits ns [] (λ k d lt. f (suc k) d (omega arith)) g)
commented_fits (n ∷ ns) (c ∷ cs) f g =
    All-cons Fits (n, c) (commented ns cs) (small n (f 0 n (omega arith)), g 0 c (omega arith))
    (commented_fits ns cs (λ k d lt. f (suc k) d (omega arith)) (λ k d lt. g (suc k) d (omega arith)))

commented_numbers : (ns : List ℤ) (cs : List (List ℕ)) → map (λ e. e.0) (commented ns cs) ≡ ns
commented_numbers [] cs = refl
commented_numbers (n ∷ ns) [] = ap (λ (l : List ℤ). n ∷ l) (commented_numbers ns [])
commented_numbers (n ∷ ns) (c ∷ cs) = ap (λ (l : List ℤ). n ∷ l) (commented_numbers ns cs)

-- a row
abbrev notes_of : Options → Note → List (List ℕ)
notes_of options note = if options.comments then note.lines else []

notes_lines : (options : Options) (note : Note) → (if options.comments then map line note.lines else []) ≡ map line (notes_of options note)
notes_lines options note = elim (cases_Bool options.comments) [
  | inl y ↦ cond-true options.comments _ _ y ∙ ap (map line) (sym (cond-true options.comments note.lines [] y))
  | inr n ↦ cond-false options.comments _ _ n ∙ ap (map line) (sym (cond-false options.comments note.lines [] n))
]

notes_skipped : (options : Options) (note : Note) → All IsTrailing note.lines → All IsTrailing (notes_of options note)
notes_skipped options note h = elim (cases_Bool options.comments) [
  | inl y ↦ subst (All IsTrailing) (sym (cond-true options.comments note.lines [] y)) h
  | inr n ↦ subst (All IsTrailing) (sym (cond-false options.comments note.lines [] n)) (λ k d lt. absurd (omega arith))
]

one_row : (options : Options) (i state : ℕ) (ns : List ℤ) (note : Note) (rest : List ℕ) → state < 2 ^ 64 → All (FitsSigned w32) ns → IsNote note →
    Gives true (lines_bytes options.whitespace i (row_lines options state ns note) ++ rest) ns rest
one_row options i state ns note rest s f g =
    let w : Bool = options.whitespace in
    let fronts : List (List ℕ) = (codes "// State " ++ decimal state) ∷ notes_of options note in
    let es : List (ℤ × List ℕ) = commented ns note.comments in
    let j : ℕ = indent_after_all i (map line fronts) in
    let mid : List ℕ = lines_bytes w j (entry_lines options es) ++ rest in
    let lines_are : row_lines options state ns note ≡ map line fronts ++ entry_lines options es =
    ap (λ x. line (codes "// State " ++ decimal state) ∷ (x ++ entry_lines options es)) (notes_lines options note) in
    let first : Gives true (lines_bytes w i (map line fronts) ++ mid) [] mid =
    skipped_give w i fronts mid (All-cons IsTrailing (codes "// State " ++ decimal state) (notes_of options note) (skipped_trails (codes "// State " ++ decimal state) (state_skipped state s)) (notes_skipped options note g.lines)) in
    let last : Gives true mid (map (λ e. e.0) es) rest = entries_give options j es rest (commented_fits ns note.comments f g.comments) in
    let both = gives_then true (lines_bytes w i (map line fronts) ++ mid) mid rest [] (map (λ e. e.0) es) first last in
    subst (λ x. Gives true (lines_bytes w i x ++ rest) ns rest) (sym lines_are)
    (subst (λ x. Gives true x ns rest) (sym (bytes-split w i (map line fronts) (entry_lines options es) rest))
    (subst (λ x. Gives true (lines_bytes w i (map line fronts) ++ mid) x rest) (commented_numbers ns note.comments) both))

-- the rows
row_and_rest : (k : ℕ) (xs : List ℤ) → take k xs ++ drop (length (take k xs)) xs ≡ xs
row_and_rest k xs = ap (λ n. take k xs ++ drop n xs) (length-take k xs) ∙ ap (λ x. take k xs ++ x) (drop_min k xs) ∙ take-append-drop k xs

no_note_is : IsNote no_note
no_note_is = record { lines = λ k d lt. absurd (omega arith); comments = λ k d lt. absurd (omega arith) }

last_gives : (options : Options) (i state : ℕ) (left : List ℤ) (tail : List ℕ) → state < 2 ^ 64 → All (FitsSigned w32) left →
    Gives true (lines_bytes options.whitespace i (last_lines options state left) ++ tail) left tail
last_gives options i state left tail s f = elim (cases_Bool ((length left == 0) && not (state == 0))) [
  | inl y ↦
      let none : left ≡ [] = nil_from_length left (eqb-true (length left) 0 (and_parts (length left == 0) (not (state == 0)) y).0) in
      subst (λ x. Gives true (lines_bytes options.whitespace i x ++ tail) left tail) (sym (cond-true ((length left == 0) && not (state == 0)) _ _ y))
      (subst (λ (l : List ℤ). Gives true tail l tail) (sym none) (λ t r. r))
  | inr n ↦
      subst (λ x. Gives true (lines_bytes options.whitespace i x ++ tail) left tail) (sym (cond-false ((length left == 0) && not (state == 0)) _ _ n))
      (one_row options i state left no_note tail s f no_note_is)
]

rows_give : (options : Options) (i state before : ℕ) (left : List ℤ) (notes : List Note) (tail : List ℕ) → state + length notes < 2 ^ 64 → All (FitsSigned w32) left → All IsNote notes →
    Gives true (lines_bytes options.whitespace i (rows_from options state before left notes) ++ tail) left tail
unfolding rows_from
rows_give options i state before left [] tail s f g = last_gives options i state left tail (omega arith) f
rows_give options i state before left (n ∷ notes) tail s f g =
    let w : Bool = options.whitespace in
    let k : ℕ = n.end - before in
    let row : List ℤ = take k left in
    let others : List Line = rows_from options (state + 1) (before + length row) (drop (length row) left) notes in
    let j : ℕ = indent_after_all i (row_lines options state row n) in
    let first = one_row options i state row n (lines_bytes w j others ++ tail) (omega arith) (All-take (FitsSigned w32) k left f) (g 0 n (omega arith)) in
    let next = rows_give options j (state + 1) (before + length row) (drop (length row) left) notes tail (omega arith) (All-drop (FitsSigned w32) (length row) left f) (λ l d lt. g (suc l) d (omega arith)) in
    let both = gives_then true (lines_bytes w i (row_lines options state row n) ++ (lines_bytes w j others ++ tail)) (lines_bytes w j others ++ tail) tail row (drop (length row) left) first next in
    subst (λ x. Gives true x left tail) (sym (bytes-split w i (row_lines options state row n) others tail))
    (subst (λ x. Gives true (lines_bytes w i (row_lines options state row n) ++ (lines_bytes w j others ++ tail)) x tail) (row_and_rest k left) both)

-- the rows of a table are read as its numbers, up to the `]` that follows
pub table_reads : (options : Options) (i k : ℕ) (numbers : List ℤ) (notes : List Note) (x : List ℕ) → length notes < 2 ^ 64 → All (FitsSigned w32) numbers → All IsNote notes →
    entries (lines_bytes options.whitespace i (table_lines options numbers notes) ++ (replicate k 32 ++ 93 ∷ x)) ≡ Some (numbers, 93 ∷ x)
table_reads options i k numbers notes x few f g =
    gives_entries k _ x numbers (rows_give options i 0 0 numbers notes (replicate k 32 ++ 93 ∷ x) (omega (arith, few)) f g)
