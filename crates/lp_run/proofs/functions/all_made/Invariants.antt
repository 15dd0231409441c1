-- What the functions that are left make, after those so far.
use Rattle.std.proofs.Common.{◌≡◌, drop}
use Rattle.lp_maker.specs.Making.{making}
use Rattle.lp_run.specs.Promised.{promises_of}
use Rattle.lp_run.specs.Functions.{all_made}
use Rattle.lp_run.proofs.functions.all_made.Given as goal

abbrev pub invariant-loop-one : goal.invariant-loop-one
invariant-loop-one l =
    all_made (making l.maker) (promises_of (drop l.one-index l.promises)) ≡ all_made (making l.fn.maker) (promises_of l.promises)
