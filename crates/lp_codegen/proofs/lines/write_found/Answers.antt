use Rattle.std.proofs.lemmas.Result.{err_from_is_err_and, IfOk-at_ok}
use Rattle.lp_write.proofs.Writing.{none-part}
use Rattle.lp_codegen.proofs.lines.write_found.Goals as goal

pub returns-in_err-texts : goal.returns-in_err-texts
returns-in_err-texts g c =
    let p = err_from_is_err_and c.from_residual.result c.from_residual.ensures.1 in
    λ lines found. rw (p.1, p.2) (none-part _ _)

pub returns : goal.returns
returns g c = λ lines found. rw (← IfOk-at_ok _ c.in_ok-texts.was found, ← c.as_slice.ensures.value) c.write_texts.ensures
