use Rattle.lp_lower.proofs.lowering.types.Goals as goal

pub returns : goal.returns
returns c = record {
  location = c.in_ok-loc.ensures;
  token = c.in_ok-token.ensures.cases;
  error = c.in_ok-error.ensures;
  terminals = c.in_ok-terminals.ensures;
  nonterminals = c.in_ok-nonterminals.ensures;
}
