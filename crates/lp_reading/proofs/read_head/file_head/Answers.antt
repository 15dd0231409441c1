use Rattle.std.proofs.Common.{refl}
use Rattle.lp_reading.specs.Heads.{head}
use Rattle.lp_types.proofs.Steps.{part_fails, read_then}
use Rattle.lp_reading.proofs.read_head.file_head.Goals as goal

pub returns-in_err-attributes : goal.returns-in_err-attributes
unfolding head
returns-in_err-attributes c = part_fails _ _ _ _ _ _ _ c.in_err-attributes.ensures c.from_residual.ensures.1 refl

pub returns-in_err-uses : goal.returns-in_err-uses
unfolding head
returns-in_err-uses c = part_fails _ _ _ _ _ _ _ c.in_err-uses.ensures c.from_residual-in_err-uses.ensures.1 (read_then _ _ _ _ _ c.in_ok-attributes.ensures refl)

pub returns-in_err-codegen : goal.returns-in_err-codegen
unfolding head
returns-in_err-codegen c = part_fails _ _ _ _ _ _ _ c.in_err-codegen.ensures c.from_residual-in_err-codegen.ensures.1 (read_then _ _ _ _ _ c.in_ok-attributes.ensures (read_then _ _ _ _ _ c.in_ok-uses.ensures refl))

pub returns-in_err-lists : goal.returns-in_err-lists
unfolding head
returns-in_err-lists c = part_fails _ _ _ _ _ _ _ c.in_err-lists.ensures c.from_residual-in_err-lists.ensures.1 (read_then _ _ _ _ _ c.in_ok-attributes.ensures (read_then _ _ _ _ _ c.in_ok-uses.ensures (read_then _ _ _ _ _ c.in_ok-codegen.ensures refl)))

pub returns : goal.returns
unfolding head
returns c = read_then _ _ _ _ _ c.in_ok-attributes.ensures (read_then _ _ _ _ _ c.in_ok-uses.ensures (read_then _ _ _ _ _ c.in_ok-codegen.ensures (read_then _ _ _ _ _ c.in_ok-lists.ensures refl)))
