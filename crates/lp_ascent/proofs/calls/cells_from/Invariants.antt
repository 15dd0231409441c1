-- The cells so far, and those to come.
use Rattle.std.proofs.Common.{◌≡◌, ◌++◌, ◌-◌, filter}
use Rattle.std.specs.List.{range_with_len}
use Rattle.lp_ascent.specs.Slots.{is_cell, layout_of}
use Rattle.lp_ascent.proofs.calls.cells_from.Given as goal

abbrev pub invariant-loop-slot : goal.invariant-loop-slot
invariant-loop-slot l =
    l.cells.items ++ filter (is_cell (layout_of l.slots)) (range_with_len l.slot (l.count - l.slot))
    ≡ filter (is_cell (layout_of l.slots)) (range_with_len l.first (l.count - l.first))
