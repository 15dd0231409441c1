use Rattle.std.proofs.Common.{[], ◌∷◌}
use Rattle.std.proofs.lemmas.Result.{err_from_is_err_and}
use Rattle.lp_write.specs.Lines.Line.{line}
use Rattle.lp_write.specs.declared.rust.WriteError.TheVariants.{Fault}
use Rattle.lp_program.proofs.Progress.{left-more, left-stopped, map-next}
use Rattle.lp_program.proofs.print.own.print_texts.Goals as goal

pub returns-in_err-line : goal.returns-in_err-line
returns-in_err-line g c =
    let p = err_from_is_err_and c.from_residual.result c.from_residual.ensures.1 in
    rw (p.1, p.2)
    (left-stopped (λ o. line c.text-item.result ∷ []) Fault _ _ _ _ _ _ c.loop-text.invariant
    (map-next line c.args.texts.now c.loop-text.text-index c.text-item.result c.text-item.is c.loop-text-test.true)
    (rw c.as_str.ensures at c.in_err-line.ensures))

pub loop-text-preserved : goal.loop-text-preserved
loop-text-preserved g c =
    left-more (λ o. line c.text-item.result ∷ []) _ _ _ _ _ _ c.loop-text.invariant
    (map-next line c.args.texts.now c.loop-text.text-index c.text-item.result c.text-item.is c.loop-text-test.true)
    (rw c.as_str.ensures at c.in_ok-line.ensures)
