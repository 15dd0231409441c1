use Rattle.std.proofs.Common.{refl, sym, ap}
use Rattle.lp_types.specs.Bounds.{maybe_binder}
use Rattle.lp_types.specs.Left.{left}
use Rattle.lp_types.specs.Reading.{Read}
use Rattle.lp_types.proofs.Steps.{where_yes, where_no, answers_as}
use Rattle.lp_types.proofs.reader.Reader.maybe_binder.Goals as goal

pub returns-then-passes : goal.returns-then-passes
unfolding maybe_binder
returns-then-passes c = answers_as _ _ _ _ _ c.binder.ensures (where_yes _ _ _ _ _ _ _ c.passes.ensures c.if-passes.true refl)

pub returns-else-passes : goal.returns-else-passes
unfolding maybe_binder
returns-else-passes c = where_no _ _ _ _ _ _ _ c.passes.ensures c.if-passes.false (ap (λ names. Read names (left c.passes.new.self)) (sym c.new.ensures.items))
