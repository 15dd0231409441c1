use Rattle.lp_types.proofs.Copies.{copy_same}
use Rattle.lp_types.proofs.reader.copied.Goals as goal

pub returns : goal.returns
returns c = copy_same c.args.token.now c.in_ok-copy.copy c.in_ok-copy.ensures.cases
