use Rattle.std.proofs.Common.{◌≡◌, ◌++◌}
use Rattle.lp_repr.specs.Numbering.{rules_from, rules_of}
use Rattle.lp_repr.proofs.numbering.rules.Given as goal

-- the rules so far and those to come
abbrev pub invariant-loop-data : goal.invariant-loop-data
invariant-loop-data l = l.all.items ++ rules_from l.grammar l.left l.data-iterator ≡ rules_of l.grammar
