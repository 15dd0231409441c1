-- The types so far.
use Rattle.std.proofs.Common.{◌≡◌, map, take}
use Rattle.std.specs.Map.Iter.{deref}
use Rattle.lp_parts.specs.Variants.{terminal_type}
use Rattle.lp_parts.proofs.variants.terminal_types.Given as goal

abbrev pub invariant-loop-terminal : goal.invariant-loop-terminal
invariant-loop-terminal l =
    map deref l.types.items ≡ map (terminal_type l.grammar) (take l.terminal-index l.terminals)
