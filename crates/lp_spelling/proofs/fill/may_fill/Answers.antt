use Rattle.std.proofs.Common.{sym, ◌∙◌}
use Rattle.lp_spelling.proofs.Fitting.{fits_not, fits_plain, fits_line}
use Rattle.lp_spelling.proofs.fill.may_fill.Goals as goal

pub returns-then-not-has_shape : goal.returns-then-not-has_shape
returns-then-not-has_shape c = fits_not _ c.args.kind _ (sym (rw (c.as_bytes.ensures.value, c.as_bytes-2.ensures.value) at c.has_shape.ensures) ∙ c.if-not-has_shape.true)

pub returns-in-None : goal.returns-in-None
returns-in-None c =
    fits_plain _ c.args.kind _ c.line_part.result (sym (rw (c.as_bytes.ensures.value, c.as_bytes-2.ensures.value) at c.has_shape.ensures) ∙ c.if-not-has_shape.false)
    c.line_part.ensures c.in-None.is

pub returns-in-Some : goal.returns-in-Some
returns-in-Some c =
    fits_line _ c.args.kind _ c.line_part.result c.in-Some.line c.is_one_line.result (sym (rw (c.as_bytes.ensures.value, c.as_bytes-2.ensures.value) at c.has_shape.ensures) ∙ c.if-not-has_shape.false)
    c.line_part.ensures c.in-Some.is c.is_one_line.ensures
