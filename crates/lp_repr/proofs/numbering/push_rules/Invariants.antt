use Rattle.std.proofs.Common.{◌≡◌, ◌++◌, map, take}
use Rattle.lp_repr.specs.Numbering.{rule_of}
use Rattle.lp_repr.proofs.numbering.push_rules.Given as goal

abbrev pub invariant-loop-production : goal.invariant-loop-production
invariant-loop-production l =
    l.all.items ≡ l.initial.all.items ++ map (rule_of l.numbers.grammar.now l.left) (take l.production-index l.productions)
