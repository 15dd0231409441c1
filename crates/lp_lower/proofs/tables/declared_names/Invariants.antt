use Rattle.std.proofs.Common.{◌≡◌, map, take}
use Rattle.lp_lower.proofs.tables.declared_names.Given as goal

abbrev pub invariant-loop-terminal : goal.invariant-loop-terminal
invariant-loop-terminal l =
    l.names ≡ map (λ t. t.name) (take l.terminal-index l.terminals)
