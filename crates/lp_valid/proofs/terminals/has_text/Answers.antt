use Rattle.std.proofs.Common.{length, arith, ap}
use Rattle.lp_valid.proofs.Pieces.{two_pieces}
use Rattle.lp_valid.proofs.terminals.has_text.Goals as goal

pub returns-in-len2-up : goal.returns-in-len2-up
returns-in-len2-up c = two_pieces c.args.pattern.now.pieces (omega (arith, ap length c.as_slice.ensures))
