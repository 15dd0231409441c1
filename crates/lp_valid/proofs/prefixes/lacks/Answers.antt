use Rattle.std.proofs.Common.{ap, not}
use Rattle.lp_valid.proofs.ClearTypes.{holds_from_contains}
use Rattle.lp_valid.proofs.prefixes.lacks.Goals as goal

pub returns : goal.returns
returns c = ap not (holds_from_contains c.contains.result c.args.prefix.now c.args.text.now c.contains.ensures.cases)
