use Rattle.std.proofs.Common.{subst, IfOk}
use Rattle.lp_valid.specs.InlineRules.{InlineIsSound}
use Rattle.lp_valid.specs.Places.{IsFirstFailing}
use Rattle.lp_valid.proofs.grammars.failing_inlines.Goals as goal

pub returns : goal.returns
returns c = subst (λ actions. IfOk c.failing_inline.result (IsFirstFailing (InlineIsSound actions))) c.as_slice.ensures c.failing_inline.ensures
