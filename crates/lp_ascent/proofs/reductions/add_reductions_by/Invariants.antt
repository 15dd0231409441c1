-- What stood there, and the reductions so far.
use Rattle.std.proofs.Common.{◌≡◌, ◌++◌, take}
use Rattle.std.specs.List.{flat_map}
use Rattle.lp_build.specs.Ascent.{but_header, header_parts}
use Rattle.lp_ascent.specs.ReduceLines.{reduction_line}
use Rattle.lp_ascent.specs.Slots.{layout_of}
use Rattle.lp_ascent.proofs.reductions.add_reductions_by.Given as goal

abbrev pub invariant-loop-reduction : goal.invariant-loop-reduction
invariant-loop-reduction l = record {
  headers : flat_map header_parts l.nodes.items ≡ flat_map header_parts l.initial.nodes.items;
  arms : flat_map but_header l.nodes.items
      ≡ flat_map but_header l.initial.nodes.items ++ flat_map (reduction_line l.shared.grammar.now (layout_of l.slots) l.number l.production) (take l.reduction-index l.reductions);
}
