use Rattle.std.proofs.Common.{◌++◌, ◌∷◌, [], List, map, sym, ap, ◌∙◌, arith}
use Rattle.std.specs.List.{range_with_len}
use Rattle.std.proofs.lemmas.List.FromFn.{map-range_with_len_more}
use Rattle.lp_core.specs.Val.{Val}
use Rattle.lp_turns.specs.Readings.{param_val}
use Rattle.lp_run.proofs.run.parameters.Goals as goal

-- one more value
pub loop-n-preserved : goal.loop-n-preserved
loop-n-preserved c =
    c.in_ok-push.ensures.items ∙ ap (λ (l : List Val). l ++ c.plain.result ∷ []) c.loop-n.invariant
    ∙ ap (λ (v : Val). map param_val (range_with_len 0 c.loop-n.n) ++ v ∷ []) c.plain.ensures
    ∙ sym (map-range_with_len_more param_val 0 c.loop-n.n c.loop-n.n (omega arith))
