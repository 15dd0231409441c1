use Rattle.std.proofs.Common.{inl, arith}
use Rattle.lp_view.specs.Elements.{before_bar, behind_bar}
use Rattle.lp_view.proofs.ElementSteps.{few}
use Rattle.lp_view.proofs.count.pattern_count.Goals as goal

pub count-requires-clause-fits : goal.count-requires-clause-fits
count-requires-clause-fits c =
    let r = c.patterns_of.result in
    inl (omega (arith, few before_bar behind_bar r.left r.rest.now))
