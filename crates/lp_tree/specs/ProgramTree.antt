-- Program trees: parts in the order of the text, each with the number of parts below it.
use Rattle.std.specs.Prelude.{ℕ, ℤ, Bool, List, [], ◌∷◌, length, map}
use Rattle.std.specs.List.{filter_map}
use Rattle.lp_form.specs.Forms.{form_of}
use Rattle.lp_form.specs.contracts.part.PartPartialEq.TheImpl as equality
use Rattle.lp_form.specs.declared.kind.FormKind.{FormKind}
use Rattle.lp_tree.specs.declared.tree.Entry.{Entry}
use Rattle.lp_form.specs.declared.part.Part.{Part}
use Rattle.lp_tree.specs.declared.tree.Node.{Node}
use Rattle.lp_tree.specs.declared.tree.Program.{Program}
use Rattle.lp_tree.specs.declared.tree.RowNote.{RowNote}

-- the forms among parts, in their order
abbrev pub forms_of : List Entry → List FormKind
forms_of es = filter_map (λ e. form_of e.part) es

-- the forms of a program, in the order of the text
abbrev pub forms : Program → List FormKind
forms p = forms_of p.entries.items

-- a part with what its holes hold, the entries of its table, and the number of parts below it
abbrev pub Item : Type 0
Item = Part × List (List ℕ) × List ℤ × ℕ

abbrev pub item : Entry → Item
item e = (e.part, e.holes.items, e.numbers.items, e.below)

-- what the first part of a node holds: its part, its texts, and the entries of its table
abbrev pub head : Node → Part × List (List ℕ) × List ℤ
head n = (n.first.part, n.first.holes.items, n.first.numbers.items)

-- whether a node is that part
abbrev pub is_part : Part → Node → Bool
is_part part n = (equality.ghosts).eq n.first.part part

-- the parts below the first one of a node
abbrev pub parts_below : Node → List Item
parts_below n = map item n.below.items

-- the parts of a node, in the order of the text
abbrev pub items : Node → List Item
items n = ((head n).0, (head n).1, (head n).2, length (parts_below n)) ∷ parts_below n

-- the parts of a program, in the order of the text
abbrev pub program_items : Program → List Item
program_items p = map item p.entries.items

-- a part with nothing below it
abbrev pub leaf : Part → List (List ℕ) → List Item
leaf part holes = (part, holes, [], 0) ∷ []

-- a note: how many entries of a table stand in its row and those before it, the comment lines before
-- the row, and what stands after each of its entries
pub record Note : Type 0 where
  pub end : ℕ
  pub lines : List (List ℕ)
  pub comments : List (List ℕ)

abbrev pub noted : RowNote → Note
noted n = record { end = n.end; lines = n.lines.items; comments = n.comments.items }

-- a note of comment lines alone
abbrev pub lines_note : List (List ℕ) → Note
lines_note lines = record { end = 0; lines = lines; comments = [] }

-- the notes of a part
abbrev pub entry_notes : Entry → List Note
entry_notes e = map noted e.notes.items

-- the notes of the first part of a node
abbrev pub head_notes : Node → List Note
head_notes n = entry_notes n.first

-- the notes of each part below the first one of a node
abbrev pub notes_below : Node → List (List Note)
notes_below n = map entry_notes n.below.items

-- the notes of each part of a node, in the order of the text
abbrev pub all_notes : Node → List (List Note)
all_notes n = head_notes n ∷ notes_below n

-- the notes of each part of a program, in the order of the text
abbrev pub program_notes : Program → List (List Note)
program_notes p = map entry_notes p.entries.items

-- the notes of parts that have none
abbrev pub unnoted : List Item → List (List Note)
unnoted parts = map (λ _. []) parts
