use Rattle.std.proofs.Common.{ap}
use Rattle.lp_types.specs.Clauses.{lifetime_bound}
use Rattle.lp_types.specs.Bounds.{type_bound}
use Rattle.lp_types.specs.Left.{left}
use Rattle.lp_types.specs.Reading.{choose}
use Rattle.lp_types.proofs.Steps.{answers_as}
use Rattle.lp_types.proofs.reader.Reader.bound_of.Goals as goal

pub returns-then-lifetimes : goal.returns-then-lifetimes
unfolding choose
returns-then-lifetimes c = answers_as _ _ _ _ _ c.lifetime_bound.ensures (ap (λ b. choose b lifetime_bound type_bound (left c.args.self.now)) c.if-lifetimes.true)

pub returns-else-lifetimes : goal.returns-else-lifetimes
unfolding choose
returns-else-lifetimes c = answers_as _ _ _ _ _ c.type_bound.ensures (ap (λ b. choose b lifetime_bound type_bound (left c.args.self.now)) c.if-lifetimes.false)
