-- What stood there, the functions so far, and those to come.
use Rattle.std.proofs.Common.{◌≡◌, ◌++◌, drop, map}
use Rattle.std.specs.List.{flat_map}
use Rattle.lp_tree.specs.ProgramTree.{items}
use Rattle.lp_ascent.specs.Slots.{layout_of}
use Rattle.lp_ascent.specs.StateLines.{states_from}
use Rattle.lp_ascent.proofs.ascent_module.add_each.Given as goal

abbrev pub invariant-loop-number : goal.invariant-loop-number
invariant-loop-number l =
    flat_map items l.nodes.items ++ states_from l.states.shared.grammar.now l.states.shared.states.now (map layout_of l.states.slots.items) l.number (drop l.number l.each)
    ≡ flat_map items l.initial.nodes.items ++ states_from l.states.shared.grammar.now l.states.shared.states.now (map layout_of l.states.slots.items) 0 l.each
