use Rattle.std.proofs.Common.{inl, arith}
use Rattle.lp_view.specs.Elements.{before, behind}
use Rattle.lp_view.proofs.ElementSteps.{few}
use Rattle.lp_view.proofs.count.element_count.Goals as goal

pub count-requires-clause-fits : goal.count-requires-clause-fits
count-requires-clause-fits c =
    let r = c.parts_of.result in
    inl (omega (arith, few (before r.separator.now) (behind r.separator.now) r.left r.rest.now))
