-- A pattern in the making, as what was laid out.
use Rattle.std.specs.Prelude.{map, string_bytes}
use Rattle.lp_repr.specs.TypeTrees.{type_tree}
use Rattle.lp_reading.specs.declared.read_pattern.Layout.{Layout as Made}
use Rattle.lp_reading.specs.Patterns.{Layout}

abbrev pub layout_of : Made → Layout
layout_of l = record { pieces = l.pieces.items; holes = map type_tree l.holes.items; last = string_bytes l.last }
