use Rattle.std.proofs.Common.{◌++◌, ap, ◌∙◌}
use Rattle.lp_lower.proofs.Made.{named}
use Rattle.lp_lower.proofs.productions.start_name.Goals as goal

pub returns : goal.returns
returns c = ap named (c.in_ok-name.ensures ∙ ap (λ t. c.args.plain.now.prefix ++ t) c.as_str.ensures)
