-- The variants so far, and those to come.
use Rattle.std.proofs.Common.{◌≡◌, ◌++◌, drop, map}
use Rattle.std.specs.Map.Iter.{deref}
use Rattle.lp_repr.specs.ShownTypes.{type_text}
use Rattle.lp_build.specs.Tables.{variant_row}
use Rattle.lp_table.specs.MachineLines.{variant_rows}
use Rattle.lp_table.proofs.machine.variants_of.Given as goal

abbrev pub invariant-loop-number : goal.invariant-loop-number
invariant-loop-number l =
    map variant_row l.variants.items ++ variant_rows l.number (map type_text (map deref (drop l.number l.types))) ≡ variant_rows 0 (map type_text (map deref l.types))
