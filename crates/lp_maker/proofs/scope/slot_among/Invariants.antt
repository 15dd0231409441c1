-- What is found of those that are left, after what was found.
use Rattle.std.proofs.Common.{◌≡◌, None, drop}
use Rattle.lp_maker.specs.Slots.{slot_among}
use Rattle.lp_maker.proofs.scope.slot_among.Given as goal

abbrev pub invariant-loop-entry : goal.invariant-loop-entry
invariant-loop-entry l = slot_among l.name l.found (drop l.entry-index l.names) ≡ slot_among l.name None l.names
