use Rattle.std.proofs.Common.{refl}
use Rattle.lp_types.proofs.Steps.{part_fails, read_then, where_no, where_yes}
use Rattle.lp_reading.proofs.read_rule.next_alternative.Goals as goal

pub returns-then-passes : goal.returns-then-passes
returns-then-passes c = where_yes _ _ _ _ _ _ _ c.passes.ensures c.if-passes.true refl

pub returns-in_err-found : goal.returns-in_err-found
returns-in_err-found c = part_fails _ _ _ _ _ _ _ c.in_err-found.ensures c.from_residual.ensures.1 (where_no _ _ _ _ _ _ _ c.passes.ensures c.if-passes.false refl)

pub returns-in_err-separates : goal.returns-in_err-separates
returns-in_err-separates c = part_fails _ _ _ _ _ _ _ c.in_err-separates.ensures c.from_residual-in_err-separates.ensures.1 (where_no _ _ _ _ _ _ _ c.passes.ensures c.if-passes.false (read_then _ _ _ _ _ c.in_ok-found.ensures refl))

pub returns : goal.returns
returns c = where_no _ _ _ _ _ _ _ c.passes.ensures c.if-passes.false (read_then _ _ _ _ _ c.in_ok-found.ensures (read_then _ _ _ _ _ c.in_ok-separates.ensures refl))
