-- The productions so far, and those to come.
use Rattle.std.proofs.Common.{◌≡◌, ◌++◌, drop, map}
use Rattle.std.specs.Map.Iter.{deref}
use Rattle.lp_build.specs.Ascent.{trial_row}
use Rattle.lp_table.specs.Starts.{start_of}
use Rattle.lp_ascent.specs.BuiltAscent.{tried_from}
use Rattle.lp_ascent.proofs.ascent_module.trial_arms.Given as goal

abbrev pub invariant-loop-number : goal.invariant-loop-number
invariant-loop-number l =
    map trial_row l.arms.items ++ tried_from l.shared.grammar.now (start_of l.shared.start) l.number (map deref (drop l.number l.productions))
    ≡ tried_from l.shared.grammar.now (start_of l.shared.start) 0 (map deref l.productions)
