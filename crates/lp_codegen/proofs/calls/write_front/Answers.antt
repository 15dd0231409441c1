use Rattle.lp_codegen.proofs.calls.write_front.Goals as goal

pub returns : goal.returns
returns g c = c.write_found.ensures _ c.front_of-lines.ensures
