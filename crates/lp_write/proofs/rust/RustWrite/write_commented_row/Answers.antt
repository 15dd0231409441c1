use Rattle.std.proofs.lemmas.Result.{err_from_is_err_and}
use Rattle.lp_write.proofs.Texts.{entry-texts}
use Rattle.lp_write.proofs.Writing.{none-part}
use Rattle.lp_write.proofs.rust.RustWrite.write_commented_row.Goals as goal

pub returns-in_err-texts : goal.returns-in_err-texts
returns-in_err-texts g c =
    let p = err_from_is_err_and c.from_residual.result c.from_residual.ensures.1 in
    let texts = entry-texts g.C.Display.output c.args.row.now in
    (texts.0, texts.1, rw (p.1, p.2) (none-part _ _))
