use Rattle.std.proofs.Common.{refl}
use Rattle.lp_types.specs.Bounds.{ret}
use Rattle.lp_types.proofs.Steps.{read_then, where_yes, where_no, part_fails}
use Rattle.lp_types.proofs.reader.Reader.ret.Goals as goal

pub returns-then-not-is_given : goal.returns-then-not-is_given
unfolding ret
returns-then-not-is_given c = where_no _ _ _ _ _ _ _ c.passes-is_given.ensures c.if-not-is_given.true refl

pub returns-in_err-ty : goal.returns-in_err-ty
unfolding ret
returns-in_err-ty c = part_fails _ _ _ _ _ _ _ c.in_err-ty.ensures c.from_residual.ensures.1 (where_yes _ _ _ _ _ _ _ c.passes-is_given.ensures c.if-not-is_given.false refl)

pub returns : goal.returns
unfolding ret
returns c = where_yes _ _ _ _ _ _ _ c.passes-is_given.ensures c.if-not-is_given.false (read_then _ _ _ _ _ c.in_ok-ty.ensures refl)
