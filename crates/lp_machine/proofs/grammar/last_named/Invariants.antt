use Rattle.std.proofs.Common.{◌≡◌, drop, None}
use Rattle.std.specs.Option.{option_copied}
use Rattle.lp_machine.specs.GrammarTables.{last_named}
use Rattle.lp_machine.proofs.grammar.last_named.Given as goal

-- what the values to come make of the one so far
abbrev pub invariant-loop-i : goal.invariant-loop-i
invariant-loop-i l = last_named l.names l.name l.i (drop l.i l.values) (option_copied l.last) ≡ last_named l.names l.name 0 l.values None
