use Rattle.std.proofs.Common.{◌≡◌, ◌+◌, ◌++◌, ◌<◌, length, refl, sym, ap, ◌∙◌, arith}
use Rattle.std.proofs.Math.ListN.{get_or}
use Rattle.lp_lower.specs.ActionNumbers.{action_count}
use Rattle.lp_lower.specs.Expansion.{expanded, expanded_all}
use Rattle.lp_lower.proofs.Walking.{walk_step, walk_end}
use Rattle.lp_lower.proofs.expand.expanded_all.Goals as goal

pub loop-alternative-init : goal.loop-alternative-init
loop-alternative-init c = ap (λ l. l ++ expanded_all c.args.names.now.plain.now c.args.sources.now c.args.first c.args.alternatives.now) c.empty-all.ensures

pub loop-alternative-preserved : goal.loop-alternative-preserved
loop-alternative-preserved c =
    let g = c.args.names.now.plain.now in
    let s = c.args.sources.now in
    let as' = c.args.alternatives.now in
    let a = c.alternative-item.result in
    let i = c.loop-alternative.alternative-index in
    let less : i < length as' = omega arith in
    let at : get_or as' i a ≡ a = sym c.alternative-item.is in
    walk_step (expanded_all g s) (expanded g s) (action_count g) (λ n x rest. refl) as' i a less at c.loop-alternative.user _ (c.in_ok-user.ensures ∙ ap (λ k. c.loop-alternative.user + k) c.in_ok-count.ensures) c.loop-alternative.all _ _ c.in_ok-push_expanded.ensures c.loop-alternative.invariant

pub returns : goal.returns
returns c = walk_end (expanded_all c.args.names.now.plain.now c.args.sources.now c.loop-alternative.user) refl c.args.alternatives.now c.loop-alternative.alternative-index (omega arith) c.loop-alternative.all _ c.loop-alternative.invariant
