use Rattle.std.proofs.Common.{◌≡◌, map, take}
use Rattle.lp_assembly.specs.Built.{intern_entry}
use Rattle.lp_assembly.proofs.intern_token.entries_of.Given as goal

abbrev pub invariant-loop-entry : goal.invariant-loop-entry
invariant-loop-entry l = l.found.items ≡ map intern_entry (take l.entry-index l.entries)
