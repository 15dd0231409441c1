use Rattle.std.proofs.Common.{◌≡◌, ◌+◌, ◌++◌, [], ◌∷◌, suc, ap, ◌∙◌, subst, arith}
use Rattle.lp_reading.specs.Prefixes.{underscores, IsLongestRun}
use Rattle.lp_reading.proofs.Runs.{underscores_more, free_of}
use Rattle.lp_reading.proofs.prefix.free_prefix.Goals as goal

pub loop-turn-preserved : goal.loop-turn-preserved
loop-turn-preserved c =
    let turn : suc (suc c.loop-turn.turn) ≡ suc (c.loop-turn.turn + 1) = omega arith in
    c.in_ok-push_str.ensures.bytes ∙ ap (λ l. l ++ 95 ∷ []) c.loop-turn.invariant ∙ underscores_more (suc c.loop-turn.turn) ∙ ap underscores turn

pub returns : goal.returns
returns c =
    let all : suc c.loop-turn.turn ≡ suc c.max-count.result = omega arith in
    let longest = subst (λ t. IsLongestRun t c.longest_run.result) c.as_bytes.ensures.value c.longest_run.ensures in
    free_of _ _ c.longest_run.result c.max-count.result longest c.max-count.ensures (c.loop-turn.invariant ∙ ap underscores all)
