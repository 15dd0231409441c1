use Rattle.lp_valid.proofs.SymbolSets.{holds_these}
use Rattle.lp_valid.proofs.declared.terminals.Goals as goal

pub returns : goal.returns
returns c = holds_these c.gathered.result c.as_slice.result.now c.args.grammar.now c.as_slice.ensures c.gathered.ensures
