use Rattle.lp_lower.proofs.lowering.keep.Goals as goal

pub returns : goal.returns
returns c = record {
  uses = c.in_ok-uses.ensures;
  type_parameters = c.in_ok-type_parameters.ensures;
  parameters = c.in_ok-parameters.ensures;
  where_clauses = c.in_ok-where_clauses.ensures;
  attributes = c.in_ok-attributes.ensures;
}
