use Rattle.std.proofs.Common.{◌++◌, ap, ◌∙◌}
use Rattle.lp_lower.proofs.types.prefixed.Goals as goal

pub returns : goal.returns
returns c = c.in_ok-push_str.ensures.bytes ∙ ap (λ t. t ++ c.args.name.now) (c.in_ok-text.ensures.ok ∙ c.as_str.ensures)
