use Rattle.lp_codegen.proofs.generator.CodeGenerator.start_parser_fn.Goals as goal

pub returns-clause-lines : goal.returns-clause-lines
returns-clause-lines g c = rw c.as_str.ensures at c.write_parser.ensures
