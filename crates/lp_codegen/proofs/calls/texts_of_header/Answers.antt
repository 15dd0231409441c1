use Rattle.lp_codegen.proofs.calls.texts_of_header.Goals as goal

pub returns : goal.returns
returns c = rw (c.in_ok-generics.ensures, c.in_ok-parameters.ensures, c.in_ok-answer.ensures) at c.parse_header.ensures
