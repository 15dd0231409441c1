use Rattle.std.proofs.Common.{sym, ◌∙◌}
use Rattle.std.proofs.lemmas.Result.{err_from_is_err_and}
use Rattle.lp_write.specs.Lines.Line.{line}
use Rattle.lp_write.proofs.Writing.{line-broke, bytes-of-line}
use Rattle.lp_write.proofs.rust.RustWrite.line.Goals as goal

pub returns-in_err-write_at : goal.returns-in_err-write_at
returns-in_err-write_at g c =
    let p = err_from_is_err_and c.from_residual.result c.from_residual.ensures.1 in
    rw p.1
    (line-broke _ _ (line c.args.text.now) c.write_at.ensures.indent c.write_at.ensures.options
    (rw (bytes-of-line _ _ _ (rw c.as_bytes-bytes.ensures.value at (sym c.is_empty.ensures ∙ c.if-is_empty.false)))
    (rw (c.lowered-indent.ensures, c.as_bytes-bytes.ensures.value) at c.in_err-write_at.ensures.broke)))
