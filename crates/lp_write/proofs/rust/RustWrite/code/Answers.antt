use Rattle.lp_write.proofs.Writing.{verbatim-written}
use Rattle.lp_write.proofs.rust.RustWrite.code.Goals as goal

pub returns : goal.returns
returns g c =
    verbatim-written c.write_at.result _ _ c.args.text.now (rw c.as_bytes.ensures.value at c.write_at.ensures.whole)
    (rw c.as_bytes.ensures.value at c.write_at.ensures.broke) c.write_at.ensures.indent c.write_at.ensures.options
