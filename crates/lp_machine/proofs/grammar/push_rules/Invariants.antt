use Rattle.std.proofs.Common.{◌≡◌, ◌++◌, map, take}
use Rattle.lp_machine.specs.GrammarTables.{rule_of}
use Rattle.lp_machine.proofs.grammar.push_rules.Given as goal

abbrev pub invariant-loop-production : goal.invariant-loop-production
invariant-loop-production l =
    l.rules.items ≡ l.initial.rules.items ++ map (rule_of l.nonterminal l.is_start) (take l.production-index l.productions)
