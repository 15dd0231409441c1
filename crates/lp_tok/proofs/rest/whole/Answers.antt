use Rattle.lp_tok.proofs.Lefts.{nothing_behind}
use Rattle.lp_tok.proofs.rest.whole.Goals as goal

pub returns-clause-value : goal.returns-clause-value
returns-clause-value c = nothing_behind _
