-- What stood there, the slots so far, and those to come.
use Rattle.std.proofs.Common.{◌≡◌, ◌++◌, drop}
use Rattle.lp_ascent.specs.StateLines.{slot_parameters}
use Rattle.lp_ascent.proofs.headers.add_slots.Given as goal

abbrev pub invariant-loop-slot : goal.invariant-loop-slot
invariant-loop-slot l =
    l.parameters.items ++ slot_parameters l.shared.grammar.now l.optional l.slot (drop l.slot l.symbols)
    ≡ l.initial.parameters.items ++ slot_parameters l.shared.grammar.now l.optional 0 l.symbols
