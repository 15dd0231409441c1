use Rattle.std.proofs.Common.{◌↔◌, ◌∙◌, subst, IfOk, IsTrue}
use Rattle.lp_tables.specs.Reductions.{StandOnce}
use Rattle.lp_tables.proofs.reductions.acts_once.Goals as goal

pub returns : goal.returns
returns c = subst (λ ts. IfOk c.stand_once.result (λ b. IsTrue b ↔ StandOnce ts)) (c.as_slice.ensures.value ∙ c.in_ok-tokens.ensures) c.stand_once.ensures
