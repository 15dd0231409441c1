use Rattle.std.proofs.Common.{refl}
use Rattle.lp_types.specs.Bounds.{typed_argument}
use Rattle.lp_types.proofs.Steps.{read_then, chosen_yes, chosen_no, part_fails, answers_as}
use Rattle.lp_types.proofs.reader.Reader.typed_argument.Goals as goal

pub returns-then-is_named : goal.returns-then-is_named
unfolding typed_argument
returns-then-is_named c = answers_as _ _ _ _ _ c.associated.ensures (chosen_yes _ _ _ _ _ _ c.named_next-is_named.ensures c.if-is_named.true refl)

pub returns-in_err-ty : goal.returns-in_err-ty
unfolding typed_argument
returns-in_err-ty c = part_fails _ _ _ _ _ _ _ c.in_err-ty.ensures c.from_residual.ensures.1 (chosen_no _ _ _ _ _ _ c.named_next-is_named.ensures c.if-is_named.false refl)

pub returns : goal.returns
unfolding typed_argument
returns c = chosen_no _ _ _ _ _ _ c.named_next-is_named.ensures c.if-is_named.false (read_then _ _ _ _ _ c.in_ok-ty.ensures refl)
