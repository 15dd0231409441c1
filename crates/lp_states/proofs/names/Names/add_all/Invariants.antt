use Rattle.std.proofs.Common.{take}
use Rattle.lp_states.specs.Naming.{NamesMore}
use Rattle.lp_states.proofs.names.Names.add_all.Given as goal

abbrev pub invariant-loop-place : goal.invariant-loop-place
invariant-loop-place l = NamesMore l.numbers.grammar.now l.initial.self l.self (take l.place l.symbols)
