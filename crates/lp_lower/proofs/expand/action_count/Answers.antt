use Rattle.std.proofs.Common.{◌+◌, cond, length, sym, ap, ◌∙◌}
use Rattle.lp_lower.specs.RightSides.{inline_sides, right_sides}
use Rattle.lp_lower.proofs.expand.action_count.Goals as goal

pub returns-in_ok-sum : goal.returns-in_ok-sum
returns-in_ok-sum c =
    let g = c.args.names.now.plain.now in
    let sides = length (right_sides g (inline_sides g) c.args.alternative.now) in
    c.in_ok-sum.ensures ∙ (ap (λ n. 1 + n) c.in_ok-sides.ensures ∙ ap (λ b. 1 + cond b sides 0) (sym c.if-is_replaced.true ∙ c.is_replaced.ensures))

pub returns-else-is_replaced : goal.returns-else-is_replaced
returns-else-is_replaced c =
    let g = c.args.names.now.plain.now in
    let sides = length (right_sides g (inline_sides g) c.args.alternative.now) in
    ap (λ b. 1 + cond b sides 0) (sym c.if-is_replaced.false ∙ c.is_replaced.ensures)
