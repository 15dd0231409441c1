use Rattle.std.specs.Str.{chars}
use Rattle.lp_tok.proofs.cut.closed_code.Goals as goal

pub returns : goal.returns
unfolding chars
returns c = c.stops_at_last.ensures
