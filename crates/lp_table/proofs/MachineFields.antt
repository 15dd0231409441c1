-- Fields are shown by the trees of their types.
use Rattle.std.proofs.Common.{◌≡◌, ℕ, List, [], ◌∷◌, ap, map}
use Rattle.lp_form.specs.declared.part.Part.TheVariants as part
use Rattle.lp_repr.specs.declared.repr.Parameter.{Parameter}
use Rattle.lp_build.specs.Built.{row}
use Rattle.lp_table.proofs.TreeTexts.{alike_each, shown_by_tree}
use Rattle.lp_parts.specs.MachineParameters.{field_tree}
use Rattle.lp_table.specs.Machines.{field_line, tree_line}

field_by_tree : (p : Parameter) → field_line p ≡ tree_line (field_tree p)
field_by_tree p = ap (λ (text : List ℕ). row part.FieldRow (p.name ∷ text ∷ [])) (shown_by_tree p.ty)

pub fields_by_trees : (fields : List Parameter) → map field_line fields ≡ map tree_line (map field_tree fields)
fields_by_trees fields = alike_each field_tree field_line tree_line field_by_tree fields
