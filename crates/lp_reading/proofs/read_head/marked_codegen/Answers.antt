use Rattle.std.proofs.Common.{refl}
use Rattle.lp_reading.specs.Heads.{marked_codegen}
use Rattle.lp_types.proofs.Steps.{part_fails, read_then}
use Rattle.lp_reading.proofs.read_head.marked_codegen.Goals as goal

pub returns-in_err-expect : goal.returns-in_err-expect
unfolding marked_codegen
returns-in_err-expect c = part_fails _ _ _ _ _ _ _ c.in_err-expect.ensures c.from_residual.ensures.1 refl

pub returns-in_err-found : goal.returns-in_err-found
unfolding marked_codegen
returns-in_err-found c = part_fails _ _ _ _ _ _ _ c.in_err-found.ensures c.from_residual-in_err-found.ensures.1 (read_then _ _ _ _ _ c.in_ok-expect.ensures refl)

pub returns-in_err-expect-2 : goal.returns-in_err-expect-2
unfolding marked_codegen
returns-in_err-expect-2 c = part_fails _ _ _ _ _ _ _ c.in_err-expect-2.ensures c.from_residual-in_err-expect-2.ensures.1 (read_then _ _ _ _ _ c.in_ok-expect.ensures (read_then _ _ _ _ _ c.in_ok-found.ensures refl))

pub returns : goal.returns
unfolding marked_codegen
returns c = read_then _ _ _ _ _ c.in_ok-expect.ensures (read_then _ _ _ _ _ c.in_ok-found.ensures (read_then _ _ _ _ _ c.in_ok-expect-2.ensures refl))
