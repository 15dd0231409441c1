use Rattle.std.proofs.Common.{◌≡◌, take}
use Rattle.lp_lower.specs.ActionNumbers.{actions_in}
use Rattle.lp_lower.proofs.expand.actions_in.Given as goal

abbrev pub invariant-loop-alternative : goal.invariant-loop-alternative
invariant-loop-alternative l =
    l.count ≡ actions_in l.names.plain.now (take l.alternative-index l.alternatives)
