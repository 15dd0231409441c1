-- The slots so far.
use Rattle.std.proofs.Common.{◌≡◌, map, take}
use Rattle.lp_ascent.specs.Slots.{layout_of, slots_for}
use Rattle.lp_ascent.proofs.slots.marked_slots.Given as goal

abbrev pub invariant-loop-state : goal.invariant-loop-state
invariant-loop-state l =
    map layout_of l.marked.items ≡ map (slots_for l.grammar (map layout_of l.plain)) (take l.state-index l.states)
