use Rattle.lp_write.proofs.headers.FnHeader+W.emit.Goals as goal

pub returns : goal.returns
returns g c = c.write_lines.ensures _ c.header_lines.ensures
