use Rattle.std.proofs.Common.{cond, [], sym, ap, ◌∙◌}
use Rattle.lp_lower.specs.Expansion.{expanded_all}
use Rattle.lp_lower.proofs.expand.inline_expanded.Goals as goal

pub returns-in_ok-expanded_all : goal.returns-in_ok-expanded_all
returns-in_ok-expanded_all c =
    let all = expanded_all c.args.names.now.plain.now c.args.sources.now c.args.first in
    c.in_ok-expanded_all.ensures ∙ (ap all c.as_slice-alternatives.ensures ∙ ap (λ b. cond b (all c.args.rule.now.alternatives) []) (sym c.if-rule.true))

pub returns-else-rule : goal.returns-else-rule
returns-else-rule c = c.empty.ensures ∙ ap (λ b. cond b (expanded_all c.args.names.now.plain.now c.args.sources.now c.args.first c.args.rule.now.alternatives) []) (sym c.if-rule.false)
