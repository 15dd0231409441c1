use Rattle.std.proofs.Common.{refl}
use Rattle.lp_lower.proofs.Made.{made_alike}
use Rattle.lp_lower.proofs.productions.production_of.Goals as goal

pub returns : goal.returns
returns c = made_alike _ _ _ _ c.args.expanded.action c.in_ok-nonterminal.ensures refl
