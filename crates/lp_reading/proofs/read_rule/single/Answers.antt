use Rattle.std.proofs.Common.{ap, refl, sym}
use Rattle.lp_reading.specs.Rules.{single}
use Rattle.lp_types.proofs.Steps.{no_memory, part_fails, read_then}
use Rattle.lp_types.specs.Left.{left}
use Rattle.lp_types.specs.Reading.{Read}
use Rattle.lp_reading.proofs.read_rule.single.Goals as goal

pub returns-in_err-one : goal.returns-in_err-one
unfolding single
returns-in_err-one c = part_fails _ _ _ _ _ _ _ c.in_err-one.ensures c.from_residual.ensures.1 refl

pub returns-in_err-expect : goal.returns-in_err-expect
unfolding single
returns-in_err-expect c = part_fails _ _ _ _ _ _ _ c.in_err-expect.ensures c.from_residual-in_err-expect.ensures.1 (read_then _ _ _ _ _ c.in_ok-one.ensures refl)

pub returns-in_err-list : goal.returns-in_err-list
returns-in_err-list c = no_memory _ _ _ _ c.from_residual-in_err-list.ensures.1

pub returns : goal.returns
unfolding single
returns c = read_then _ _ _ _ _ c.in_ok-one.ensures (read_then _ _ _ _ _ c.in_ok-expect.ensures (ap (λ list. Read list (left c.expect.new.self)) (sym c.in_ok-list.ensures)))
