use Rattle.std.proofs.Common.{◌<◌, sym, arith}
use Rattle.lp_core.specs.Tree.{trees_of}
use Rattle.lp_core.specs.Weight.{weight, weight_all}
use Rattle.lp_core.proofs.Bodies.{body_there, body_missing}
use Rattle.lp_core.proofs.Less.{nth_less}
use Rattle.lp_core.proofs.machine.body_at.Goals as goal

pub returns-in-None-clause-same : goal.returns-in-None-clause-same
returns-in-None-clause-same c = λ p st. body_missing p c.args.bodies.now c.args.body st (sym c.in-None.ensures)

pub returns-in-Some-clause-same : goal.returns-in-Some-clause-same
returns-in-Some-clause-same c = λ p st. body_there p c.args.bodies.now c.args.body c.in-Some.e.now st (sym c.in-Some.ensures)

pub returns-in-Some-clause-smaller : goal.returns-in-Some-clause-smaller
returns-in-Some-clause-smaller c =
    let less : weight c.in-Some.e.now < weight_all (trees_of c.args.bodies.now) = nth_less _ _ _ (sym c.in-Some.ensures) in
    omega (arith, less)
