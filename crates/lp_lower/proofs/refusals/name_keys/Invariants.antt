use Rattle.std.proofs.Common.{◌≡◌, map, take}
use Rattle.lp_lower.proofs.refusals.name_keys.Given as goal

abbrev pub invariant-loop-terminal : goal.invariant-loop-terminal
invariant-loop-terminal l = l.keys.items ≡ map (λ t. (t.name, t.place)) (take l.terminal-index l.terminals)
