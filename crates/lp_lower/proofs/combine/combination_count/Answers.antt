use Rattle.std.proofs.Common.{arith}
use Rattle.lp_lower.proofs.combine.combination_count.Goals as goal

pub returns : goal.returns
returns c = omega (arith, c.capped_count-count.ensures)
