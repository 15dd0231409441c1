use Rattle.lp_codegen.proofs.intern_token.write_builder.Goals as goal

pub returns : goal.returns
returns g c = c.write_found.ensures _ c.builder_lines.ensures
