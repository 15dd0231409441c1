-- What stood there, the reductions by the productions so far, and those to come.
use Rattle.std.proofs.Common.{◌≡◌, ◌++◌, drop, map}
use Rattle.std.specs.List.{flat_map}
use Rattle.std.specs.Map.Iter.{deref}
use Rattle.lp_build.specs.Ascent.{but_header, header_parts}
use Rattle.lp_ascent.specs.ReduceLines.{reductions_from}
use Rattle.lp_ascent.specs.Slots.{layout_of}
use Rattle.lp_ascent.proofs.reductions.add_by_production.Given as goal

abbrev pub invariant-loop-number : goal.invariant-loop-number
invariant-loop-number l = record {
  headers : flat_map header_parts l.nodes.items ≡ flat_map header_parts l.initial.nodes.items;
  arms : flat_map but_header l.nodes.items ++ reductions_from l.shared.grammar.now (layout_of l.slots) l.reductions l.number (map deref (drop l.number l.productions))
      ≡ flat_map but_header l.initial.nodes.items ++ reductions_from l.shared.grammar.now (layout_of l.slots) l.reductions 0 (map deref l.productions);
}
