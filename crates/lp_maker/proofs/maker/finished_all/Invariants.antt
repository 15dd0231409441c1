-- The functions so far, each with a body.
use Rattle.std.proofs.Common.{◌≡◌, map}
use Rattle.lp_maker.specs.Making.{finished}
use Rattle.lp_maker.proofs.maker.finished_all.Given as goal

abbrev pub invariant-loop-function : goal.invariant-loop-function
invariant-loop-function l = l.made.items ≡ map finished l.yielded
