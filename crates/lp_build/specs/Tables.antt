-- Tables, and what looks them up.
use Rattle.std.specs.Prelude.{ℕ, ◌==◌, List, [], ◌∷◌, ◌++◌, map, codes, decimal, if◌then◌else◌}
use Rattle.lp_form.specs.declared.part.Part.TheVariants as part
use Rattle.lp_tree.specs.ProgramTree.{Item, Note, leaf}
use Rattle.lp_build.specs.Built.{row, barred, with_line}
use Rattle.lp_build.specs.declared.table.GotoArm.{GotoArm}
use Rattle.lp_build.specs.declared.table.IntegerArm.{IntegerArm}
use Rattle.lp_build.specs.declared.table.StateRange.{StateRange}
use Rattle.lp_build.specs.declared.table.Variant.{Variant}

abbrev pub variant_row : Variant → Item
variant_row v = row part.VariantRow (v.name ∷ v.ty ∷ [])

abbrev pub integer_row : IntegerArm → Item
integer_row a = row part.IntegerRow (a.pattern ∷ decimal a.terminal ∷ [])

-- one state, or the first and the last of several
abbrev pub range_text : StateRange → List ℕ
range_text r = if r.first == r.last then decimal r.first else decimal r.first ++ (codes "..=" ++ decimal r.last)

abbrev pub goto_row : GotoArm → Item
goto_row a = row part.GotoRange (barred (map range_text a.states.items) ∷ decimal a.target ∷ [])

-- and its note
abbrev pub goto_note : GotoArm → List Note
goto_note a = with_line [] a.note

-- the terminals of one variant: without captures by their numbers, else with their patterns
abbrev pub symbol_row : List ℕ → List (List ℕ) → List ℕ → List ℕ → List Item
symbol_row terminals [] variant captures = leaf part.SymbolArm (barred (map decimal terminals) ∷ variant ∷ [])
symbol_row terminals (p ∷ ps) variant captures = leaf part.SymbolMatch (barred (map decimal terminals) ∷ barred (p ∷ ps) ∷ variant ∷ captures ∷ [])
