use Rattle.lp_codegen.proofs.calls.write_head.Goals as goal

pub returns : goal.returns
returns g c = c.write_found.ensures _ c.module_head.ensures
