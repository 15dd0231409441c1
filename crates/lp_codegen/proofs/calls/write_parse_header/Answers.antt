use Rattle.lp_codegen.proofs.calls.write_parse_header.Goals as goal

pub returns : goal.returns
returns g c = c.write_found.ensures _ c.lines_of_header-lines.ensures
