-- The calls so far.
use Rattle.std.proofs.Common.{◌≡◌, map, take}
use Rattle.lp_tree.specs.ProgramTree.{items}
use Rattle.lp_ascent.specs.GotoLines.{goto_call}
use Rattle.lp_ascent.specs.NamedGotos.{named_as}
use Rattle.lp_ascent.specs.Slots.{layout_of}
use Rattle.lp_ascent.proofs.gotos.goto_calls.Given as goal

abbrev pub invariant-loop-goto : goal.invariant-loop-goto
invariant-loop-goto l =
    map items l.calls.items
    ≡ map (goto_call l.states.shared.grammar.now (map layout_of l.states.slots.items) (layout_of l.slots)) (map named_as (take l.goto-index l.gotos))
