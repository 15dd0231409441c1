-- The gotos so far, and those to come.
use Rattle.std.proofs.Common.{◌≡◌, ◌++◌, map, string_bytes}
use Rattle.lp_ascent.specs.GotoLines.{named_gotos}
use Rattle.lp_ascent.specs.NamedGotos.{named_as}
use Rattle.lp_ascent.proofs.gotos.named_gotos.Given as goal

abbrev pub invariant-loop-nonterminal : goal.invariant-loop-nonterminal
invariant-loop-nonterminal l =
    map named_as l.named.items ++ named_gotos (map string_bytes l.names) l.nonterminal-iterator
    ≡ named_gotos (map string_bytes l.names) l.gotos.entries
