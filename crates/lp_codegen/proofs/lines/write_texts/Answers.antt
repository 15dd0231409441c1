use Rattle.std.proofs.lemmas.Result.{err_from_is_err_and}
use Rattle.lp_write.specs.Lines.Line.{line}
use Rattle.lp_write.proofs.Each.{each-more, each-faults}
use Rattle.lp_codegen.proofs.lines.write_texts.Goals as goal

pub returns-in_err-line : goal.returns-in_err-line
returns-in_err-line g c =
    let p = err_from_is_err_and c.from_residual.result c.from_residual.ensures.1 in
    rw (p.1, p.2)
    (each-faults line c.args.texts.now c.loop-text.text-index c.text-item.result _ _ _ c.text-item.is
    c.loop-text-test.true c.loop-text.invariant (rw c.as_str.ensures at c.in_err-line.ensures))

pub loop-text-preserved : goal.loop-text-preserved
loop-text-preserved g c =
    each-more line c.args.texts.now c.loop-text.text-index c.text-item.result _ _ _ c.text-item.is
    c.loop-text-test.true c.loop-text.invariant (rw c.as_str.ensures at c.in_ok-line.ensures)
