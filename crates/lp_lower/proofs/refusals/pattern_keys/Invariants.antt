use Rattle.std.proofs.Common.{◌≡◌, map, take}
use Rattle.lp_repr.specs.Shown.{pattern_text}
use Rattle.lp_lower.proofs.refusals.pattern_keys.Given as goal

abbrev pub invariant-loop-terminal : goal.invariant-loop-terminal
invariant-loop-terminal l = l.keys.items ≡ map (λ t. (pattern_text t.pattern, t.place)) (take l.terminal-index l.terminals)
