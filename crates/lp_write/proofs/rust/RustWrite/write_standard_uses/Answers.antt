use Rattle.lp_write.specs.Uses.{standard_uses}
use Rattle.lp_write.proofs.rust.RustWrite.write_standard_uses.Goals as goal

pub returns : goal.returns
returns g c = c.write_lines.ensures (standard_uses c.args.prefix.now) c.standard_uses.ensures
