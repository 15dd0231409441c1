use Rattle.std.proofs.Common.{◌≡◌, drop}
use Rattle.lp_repr.specs.NameOrder.{nonterminal_cmp}
use Rattle.lp_lower.specs.Productions.{put_all, rule_entries}
use Rattle.lp_lower.proofs.productions.put_rules.Given as goal

-- what is put and what is to come
abbrev pub invariant-loop-rule : goal.invariant-loop-rule
invariant-loop-rule l =
    put_all nonterminal_cmp l.all.entries (rule_entries l.names.plain.now l.sources l.next (drop l.rule-index l.names.plain.now.rules)) ≡ put_all nonterminal_cmp l.initial.all.entries (rule_entries l.names.plain.now l.sources l.first l.names.plain.now.rules)
