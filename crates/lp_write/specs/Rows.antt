-- The lines of a table row.
use Rattle.std.specs.Prelude.{◌≡◌, ℕ, ℤ, Bool, if◌then◌else◌, List, [], ◌++◌, Option, codes}
use Rattle.std.specs.List.{AllZip, join_by}
use Rattle.std.specs.Fmt.{signed_decimal}
use Rattle.lp_write.specs.Texts.{IsShownAs}

-- a number and a comma
abbrev pub entry_piece : {C : Type 0} → ℤ × C → List ℕ
entry_piece entry = signed_decimal entry.0 ++ codes ","

-- a row's numbers on one line, with blanks between them where whitespace is printed
abbrev pub row_text : {C : Type 0} → Bool → List (ℤ × C) → List ℕ
row_text whitespace row = join_by entry_piece (if whitespace then codes " " else []) row

-- a number with its comment, which is shown as some text
abbrev pub IsEntryText : {C : Type 0} → (C → Option (List ℕ)) → ℤ × C → List ℕ → Type 0
IsEntryText output entry text =
    (comment : List ℕ) × IsShownAs (output entry.1) comment × (text ≡ signed_decimal entry.0 ++ (codes ", " ++ comment))

-- a row's numbers with their comments
abbrev pub AreEntryTexts : {C : Type 0} → (C → Option (List ℕ)) → List (ℤ × C) → List (List ℕ) → Type 0
AreEntryTexts output row texts = AllZip (IsEntryText output) row texts
