use Rattle.lp_codegen.proofs.calls.write_source.Goals as goal

pub returns : goal.returns
returns g c = c.write_found.ensures _ c.source_of-lines.ensures
