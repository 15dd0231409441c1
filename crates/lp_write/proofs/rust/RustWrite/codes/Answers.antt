use Rattle.std.proofs.lemmas.Result.{err_from_is_err_and}
use Rattle.lp_write.specs.Lines.Line.{verbatim}
use Rattle.lp_write.proofs.Each.{each-more, each-faults}
use Rattle.lp_write.proofs.rust.RustWrite.codes.Goals as goal

pub returns-in_err-code : goal.returns-in_err-code
returns-in_err-code g c =
    let p = err_from_is_err_and c.from_residual.result c.from_residual.ensures.1 in
    rw p.1
    (each-faults verbatim c.args.texts.now c.loop-text.text-index c.text-item.result _ _ _ c.text-item.is
    c.loop-text-test.true c.loop-text.invariant (rw c.as_str.ensures at c.in_err-code.ensures))

pub loop-text-preserved : goal.loop-text-preserved
loop-text-preserved g c =
    each-more verbatim c.args.texts.now c.loop-text.text-index c.text-item.result _ _ _ c.text-item.is
    c.loop-text-test.true c.loop-text.invariant (rw c.as_str.ensures at c.in_ok-code.ensures)
