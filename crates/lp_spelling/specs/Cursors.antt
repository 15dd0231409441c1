-- What a reader has left of its text.
use Rattle.std.specs.Prelude.{◌≡◌, ℕ, List, drop}
use Rattle.lp_spelling.specs.declared.cursor.Cursor.{Cursor}

-- the text that is left at a cursor
abbrev pub left : Cursor → List ℕ
left c = drop c.raw c.text.now

-- a cursor of the same text
abbrev pub IsTaken : Cursor → Cursor → Type 0
IsTaken old new = new.text.now ≡ old.text.now
