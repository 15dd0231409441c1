use Rattle.std.proofs.lemmas.Result.{err_from_is_err_and, on_err_weaker}
use Rattle.lp_write.proofs.Sinking.{took-then, broke-then, broke-more}
use Rattle.lp_write.proofs.rust.RustWrite.write_at.Goals as goal

pub returns-in_err-write_all-clause-broke : goal.returns-in_err-write_all-clause-broke
returns-in_err-write_all-clause-broke g c =
    let p = err_from_is_err_and c.from_residual-in_err-write_all.result c.from_residual-in_err-write_all.ensures.1 in
    rw p.1
    (broke-more _ _ _ _ (broke-then _ _ _ _ _ c.in_ok-write_indent.ensures.whole c.in_err-write_all.ensures.broke))

pub returns-clause-broke : goal.returns-clause-broke
returns-clause-broke g c =
    on_err_weaker c.write_all-2.result
    (λ q. broke-then _ _ _ _ _ (took-then _ _ _ _ _ c.in_ok-write_indent.ensures.whole c.in_ok-write_all.ensures.whole) q)
    c.write_all-2.ensures.broke
