use Rattle.std.proofs.Common.{◌≡◌, [], map, drop}
use Rattle.lp_repr.specs.NameOrder.{terminal_cmp}
use Rattle.lp_lower.specs.Lowering.{named_pattern, named_patterns, pattern_entry}
use Rattle.lp_lower.specs.Productions.{put_all}
use Rattle.lp_lower.proofs.tables.patterns.Given as goal

-- what is put and what is to come
abbrev pub invariant-loop-terminal : goal.invariant-loop-terminal
invariant-loop-terminal l =
    put_all terminal_cmp (map pattern_entry l.patterns.entries) (map named_pattern (drop l.terminal-index l.plain.conversions)) ≡ put_all terminal_cmp [] (named_patterns l.plain)
