use Rattle.std.proofs.Common.{◌≡◌, map}
use Rattle.std.specs.List.{range_with_len}
use Rattle.lp_turns.specs.Readings.{param_val}
use Rattle.lp_run.proofs.run.parameters.Given as goal

abbrev pub invariant-loop-n : goal.invariant-loop-n
invariant-loop-n l = l.args.items ≡ map param_val (range_with_len 0 l.n)
