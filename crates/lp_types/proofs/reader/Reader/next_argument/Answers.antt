use Rattle.std.proofs.Common.{refl}
use Rattle.lp_types.proofs.Steps.{where_yes, where_no, read_then, part_fails}
use Rattle.lp_types.proofs.reader.Reader.next_argument.Goals as goal

pub returns-then-passes : goal.returns-then-passes
returns-then-passes c = where_yes _ _ _ _ _ _ _ c.passes.ensures c.if-passes.true refl

pub returns-in_err-argument : goal.returns-in_err-argument
returns-in_err-argument c = part_fails _ _ _ _ _ _ _ c.in_err-argument.ensures c.from_residual.ensures.1 (where_no _ _ _ _ _ _ _ c.passes.ensures c.if-passes.false refl)

pub returns-in_err-separates : goal.returns-in_err-separates
returns-in_err-separates c = part_fails _ _ _ _ _ _ _ c.in_err-separates.ensures c.from_residual-in_err-separates.ensures.1 (where_no _ _ _ _ _ _ _ c.passes.ensures c.if-passes.false (read_then _ _ _ _ _ c.in_ok-argument.ensures refl))

pub returns : goal.returns
returns c = where_no _ _ _ _ _ _ _ c.passes.ensures c.if-passes.false (read_then _ _ _ _ _ c.in_ok-argument.ensures (read_then _ _ _ _ _ c.in_ok-separates.ensures refl))
