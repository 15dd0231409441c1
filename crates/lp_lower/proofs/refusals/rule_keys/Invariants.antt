use Rattle.std.proofs.Common.{◌≡◌, map, take}
use Rattle.lp_lower.proofs.refusals.rule_keys.Given as goal

abbrev pub invariant-loop-rule : goal.invariant-loop-rule
invariant-loop-rule l = l.keys.items ≡ map (λ r. (r.name.0, r.place)) (take l.rule-index l.rules)
