use Rattle.lp_lower.proofs.PieceSteps.{expanded_added}
use Rattle.lp_lower.proofs.combine.Combination.add_expanded.Goals as goal

pub returns : goal.returns
returns c = expanded_added c.args.self.now c.args.expanded.now c.in_ok-inner.inner _ _ _ c.in_ok-inner.ensures c.in_ok-push.ensures c.one_fails-fallible.ensures c.in_ok-push_symbols.ensures
