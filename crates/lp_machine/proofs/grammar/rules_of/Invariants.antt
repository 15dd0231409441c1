use Rattle.std.proofs.Common.{◌≡◌, ◌++◌}
use Rattle.lp_machine.specs.GrammarTables.{rules_from, rules_of}
use Rattle.lp_machine.proofs.grammar.rules_of.Given as goal

-- the productions so far, and those to come
abbrev pub invariant-loop-name : goal.invariant-loop-name
invariant-loop-name l = l.rules.items ++ rules_from l.grammar l.nonterminal l.name-iterator ≡ rules_of l.grammar
