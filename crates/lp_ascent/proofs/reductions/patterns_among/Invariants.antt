-- The patterns so far, and those to come.
use Rattle.std.proofs.Common.{◌≡◌, ◌++◌, drop}
use Rattle.lp_ascent.specs.ReduceLines.{patterns_from}
use Rattle.lp_ascent.proofs.reductions.patterns_among.Given as goal

abbrev pub invariant-loop-number : goal.invariant-loop-number
invariant-loop-number l =
    l.patterns.items ++ patterns_from l.grammar l.tokens l.number (drop l.number l.terminals)
    ≡ patterns_from l.grammar l.tokens 0 l.terminals
