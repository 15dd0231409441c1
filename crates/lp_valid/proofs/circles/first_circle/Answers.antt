use Rattle.std.proofs.Common.{◌<◌, length, arith}
use Rattle.lp_valid.proofs.Walks.{no_circle, reaches_within}
use Rattle.lp_valid.proofs.circles.first_circle.Goals as goal

pub returns-then-all_run_lesser : goal.returns-then-all_run_lesser
returns-then-all_run_lesser c = no_circle c.args.actions.now (c.all_run_lesser.ensures c.if-all_run_lesser.true)

pub returns : goal.returns
returns c = λ k p.
    let within : k < length c.args.actions.now = reaches_within c.args.actions.now k k p in
    c.loop-place.invariant k (omega arith) p
