use Rattle.std.proofs.Common.{◌++◌, ap, ◌∙◌, arith}
use Rattle.lp_types.proofs.Gathered.{gathered_more, gathered_broken, gathered_all, no_length}
use Rattle.lp_types.proofs.tokens.with_codes.Goals as goal

pub returns-in-None : goal.returns-in-None
returns-in-None c = gathered_all _ _ _ _ c.loop-turn.invariant (no_length c.loop-turn.pending.items (omega (arith, c.in-None.ensures.cases.0)))

pub returns-in-Some-Err : goal.returns-in-Some-Err
returns-in-Some-Err c = gathered_broken _ _ _ _ _ c.in-Some-Err.error c.loop-turn.invariant (rw c.in-Some-Err.field-0-is at c.in-Some-Err.ensures.items)

pub loop-turn-preserved : goal.loop-turn-preserved
loop-turn-preserved c =
    let taken = rw c.in-Some-Ok.field-0-is at c.in-Some-Ok.ensures.items in
    let follows = c.in_ok-append-in-Some-Ok.ensures.items ∙ ap (λ l. c.pop.new.self.items ++ l) c.reverse-in-Some-Ok.ensures.items in
    gathered_more _ _ _ _ c.in_ok-inside-in-Some-Ok.inside.items _ _ _ _ c.in-Some-Ok.spanned c.loop-turn.invariant taken c.in_ok-inside-in-Some-Ok.ensures c.after-place.ensures c.in_ok-push-in-Some-Ok.ensures.items follows
