use Rattle.std.proofs.Common.{ap, refl, sym}
use Rattle.lp_reading.specs.Heads.{maybe_type_parameters}
use Rattle.lp_types.proofs.Steps.{answers_as, where_no, where_yes}
use Rattle.lp_types.specs.Left.{left}
use Rattle.lp_types.specs.Reading.{Read}
use Rattle.lp_reading.proofs.read_head.maybe_type_parameters.Goals as goal

pub returns-then-passes : goal.returns-then-passes
unfolding maybe_type_parameters
returns-then-passes c = answers_as _ _ _ _ _ c.type_parameters.ensures (where_yes _ _ _ _ _ _ _ c.passes.ensures c.if-passes.true refl)

pub returns-else-passes : goal.returns-else-passes
unfolding maybe_type_parameters
returns-else-passes c = where_no _ _ _ _ _ _ _ c.passes.ensures c.if-passes.false (ap (λ xs. Read xs (left c.passes.new.self)) (sym c.new.ensures.items))
