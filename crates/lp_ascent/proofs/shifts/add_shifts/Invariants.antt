-- What stood there, the shifts so far, and those to come.
use Rattle.std.proofs.Common.{◌≡◌, ◌++◌, map}
use Rattle.std.specs.List.{flat_map}
use Rattle.lp_build.specs.Ascent.{but_header, header_parts}
use Rattle.lp_ascent.specs.ShiftLines.{shift_line}
use Rattle.lp_ascent.specs.Slots.{layout_of}
use Rattle.lp_ascent.proofs.shifts.add_shifts.Given as goal

abbrev pub invariant-loop-terminal : goal.invariant-loop-terminal
invariant-loop-terminal l = record {
  headers : flat_map header_parts l.nodes.items ≡ flat_map header_parts l.initial.nodes.items;
  arms : flat_map but_header l.nodes.items ++ flat_map (shift_line l.states.shared.grammar.now (map layout_of l.states.slots.items) (layout_of l.slots)) l.terminal-iterator
      ≡ flat_map but_header l.initial.nodes.items ++ flat_map (shift_line l.states.shared.grammar.now (map layout_of l.states.slots.items) (layout_of l.slots)) l.shifts.entries;
}
