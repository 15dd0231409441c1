use Rattle.std.proofs.Common.{◌+◌, ◌++◌, cond, ap, ◌∙◌}
use Rattle.lp_lower.specs.ActionNumbers.{is_replaced}
use Rattle.lp_lower.specs.Expansion.{expanded_from}
use Rattle.lp_lower.proofs.expand.push_expanded.Goals as goal

pub returns : goal.returns
returns c =
    let g = c.args.names.now.plain.now in
    let first = c.args.user + cond (is_replaced g c.args.alternative.now) 1 0 in
    c.in_ok-push_numbered.ensures
    ∙ ap (λ l. c.args.all.now ++ l)
    (ap (λ n. expanded_from n c.in_ok-combinations.combinations.items) (c.in_ok-first.ensures ∙ ap (λ b. c.args.user + cond b 1 0) c.is_replaced.ensures)
    ∙ ap (expanded_from first) c.in_ok-combinations.ensures)
