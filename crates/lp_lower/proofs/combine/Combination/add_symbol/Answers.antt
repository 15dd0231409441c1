use Rattle.lp_lower.proofs.PieceSteps.{symbol_added}
use Rattle.lp_lower.proofs.combine.Combination.add_symbol.Goals as goal

pub returns : goal.returns
returns c = symbol_added c.args.self.now c.args.symbol.now c.in_ok-original.original c.in_ok-copy.copy _ _ c.in_ok-original.ensures c.in_ok-copy.ensures c.in_ok-push.ensures c.in_ok-push-2.ensures
