use Rattle.lp_valid.proofs.Sides.{no_single}
use Rattle.lp_valid.proofs.starts.is_single.Goals as goal

pub returns-in-len2-up : goal.returns-in-len2-up
returns-in-len2-up c = no_single c.args.productions.now c.in-len2-up.len_at_least
