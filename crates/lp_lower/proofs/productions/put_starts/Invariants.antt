use Rattle.std.proofs.Common.{◌≡◌, drop}
use Rattle.lp_repr.specs.NameOrder.{nonterminal_cmp}
use Rattle.lp_lower.specs.Productions.{put_all, start_entries}
use Rattle.lp_lower.proofs.productions.put_starts.Given as goal

-- what is put and what is to come
abbrev pub invariant-loop-rule : goal.invariant-loop-rule
invariant-loop-rule l =
    put_all nonterminal_cmp l.all.entries (start_entries l.plain l.action (drop l.rule-index l.plain.rules)) ≡ put_all nonterminal_cmp l.initial.all.entries (start_entries l.plain 0 l.plain.rules)
