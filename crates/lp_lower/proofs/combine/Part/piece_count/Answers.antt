use Rattle.std.proofs.Common.{sym}
use Rattle.lp_lower.proofs.PieceSteps.{length-options}
use Rattle.lp_lower.proofs.combine.Part.piece_count.Goals as goal

pub returns-in-Options : goal.returns-in-Options
returns-in-Options c = sym (length-options c.args.self.now c.in-Options.options c.in-Options.is)
