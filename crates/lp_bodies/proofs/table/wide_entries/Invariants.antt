-- The entries so far.
use Rattle.std.proofs.Common.{◌≡◌, take}
use Rattle.lp_bodies.proofs.table.wide_entries.Given as goal

abbrev pub invariant-loop-entry : goal.invariant-loop-entry
invariant-loop-entry l = l.entries.items ≡ take l.entry-index l.numbers
