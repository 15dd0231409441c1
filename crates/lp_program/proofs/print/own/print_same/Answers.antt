use Rattle.std.proofs.Common.{[], ◌∷◌}
use Rattle.std.proofs.lemmas.Result.{err_from_is_err_and}
use Rattle.lp_write.specs.Lines.Line.{line}
use Rattle.lp_write.specs.declared.rust.WriteError.TheVariants.{Fault}
use Rattle.lp_program.proofs.Progress.{left-more, left-stopped, replicate-next}
use Rattle.lp_program.proofs.print.own.print_same.Goals as goal

pub returns-in_err-line : goal.returns-in_err-line
returns-in_err-line g c =
    let p = err_from_is_err_and c.from_residual.result c.from_residual.ensures.1 in
    rw (p.1, p.2)
    (left-stopped (λ o. line c.args.text.now ∷ []) Fault _ _ _ _ _ _ c.loop-i.invariant
    (replicate-next c.args.times c.loop-i._i (line c.args.text.now) c.loop-i-test.true) c.in_err-line.ensures)

pub loop-i-preserved : goal.loop-i-preserved
loop-i-preserved g c =
    left-more (λ o. line c.args.text.now ∷ []) _ _ _ _ _ _ c.loop-i.invariant
    (replicate-next c.args.times c.loop-i._i (line c.args.text.now) c.loop-i-test.true) c.in_ok-line.ensures
