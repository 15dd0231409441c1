use Rattle.lp_codegen.proofs.intern_token.write_head.Goals as goal

pub returns : goal.returns
returns g c = c.write_found.ensures _ c.token_head.ensures
