-- The slots so far.
use Rattle.std.proofs.Common.{◌≡◌, map, take}
use Rattle.lp_ascent.specs.Slots.{layout_of, plain_slots}
use Rattle.lp_ascent.proofs.slots.plain_slots.Given as goal

abbrev pub invariant-loop-state : goal.invariant-loop-state
invariant-loop-state l = map layout_of l.plain.items ≡ map (plain_slots l.grammar) (take l.state-index l.states)
