use Rattle.std.proofs.Common.{refl}
use Rattle.lp_types.specs.Bounds.{path_bound}
use Rattle.lp_types.proofs.Steps.{read_then, where_yes, where_no, part_fails, answers_as}
use Rattle.lp_types.proofs.reader.Reader.path_bound.Goals as goal

pub returns-in_err-names : goal.returns-in_err-names
unfolding path_bound
returns-in_err-names c = part_fails _ _ _ _ _ _ _ c.in_err-names.ensures c.from_residual.ensures.1 refl

pub returns-in_err-path : goal.returns-in_err-path
unfolding path_bound
returns-in_err-path c = part_fails _ _ _ _ _ _ _ c.in_err-path.ensures c.from_residual-in_err-path.ensures.1 (read_then _ _ _ _ _ c.in_ok-names.ensures refl)

pub returns-then-is_function : goal.returns-then-is_function
unfolding path_bound
returns-then-is_function c = answers_as _ _ _ _ _ c.function_bound.ensures
    (read_then _ _ _ _ _ c.in_ok-names.ensures (read_then _ _ _ _ _ c.in_ok-path.ensures (where_yes _ _ _ _ _ _ _ c.passes-is_function.ensures c.if-is_function.true refl)))

pub returns : goal.returns
unfolding path_bound
returns c = answers_as _ _ _ _ _ c.trait_bound.ensures
    (read_then _ _ _ _ _ c.in_ok-names.ensures (read_then _ _ _ _ _ c.in_ok-path.ensures (where_no _ _ _ _ _ _ _ c.passes-is_function.ensures c.if-is_function.false refl)))
