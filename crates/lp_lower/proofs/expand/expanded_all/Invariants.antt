use Rattle.std.proofs.Common.{◌≡◌, ◌++◌, drop}
use Rattle.lp_lower.specs.Expansion.{expanded_all}
use Rattle.lp_lower.proofs.expand.expanded_all.Given as goal

-- those so far and those to come
abbrev pub invariant-loop-alternative : goal.invariant-loop-alternative
invariant-loop-alternative l =
    l.all ++ expanded_all l.names.plain.now l.sources l.user (drop l.alternative-index l.alternatives) ≡ expanded_all l.names.plain.now l.sources l.first l.alternatives
