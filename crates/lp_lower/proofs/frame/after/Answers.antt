use Rattle.std.proofs.Common.{◌≡◌, ◌+◌, cond, sym, ap, ◌∙◌, arith}
use Rattle.lp_lower.proofs.frame.after.Goals as goal

pub returns-in_ok-sum : goal.returns-in_ok-sum
returns-in_ok-sum c = c.in_ok-sum.ensures ∙ ap (λ b. c.args.number + cond b 1 0) (sym c.if-used.true)

pub returns-else-used : goal.returns-else-used
returns-else-used c =
    let e : c.args.number ≡ c.args.number + 0 = omega arith in
    e ∙ ap (λ b. c.args.number + cond b 1 0) (sym c.if-used.false)
