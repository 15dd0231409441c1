use Rattle.std.proofs.Common.{take}
use Rattle.std.specs.List.{AllZip}
use Rattle.lp_tables.specs.Gathering.{Describes}
use Rattle.lp_tables.proofs.tables.all_items.Given as goal

abbrev pub invariant-loop-state : goal.invariant-loop-state
invariant-loop-state l = AllZip (Describes l.rules.all.items) (take l.state-index l.states) l.all.items
