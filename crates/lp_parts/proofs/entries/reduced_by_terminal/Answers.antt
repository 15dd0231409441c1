use Rattle.std.proofs.Common.{ap, sym, ◌∙◌, ◌<◌, length, vec_len, take, arith}
use Rattle.lp_parts.specs.Entries.{first_of_two, is_terminal, reduced_by, reduced_on}
use Rattle.lp_parts.proofs.Reductions.{reduced_on_more}
use Rattle.lp_parts.proofs.entries.reduced_by_terminal.Goals as goal

pub loop-reduction-preserved : goal.loop-reduction-preserved
loop-reduction-preserved c =
    let lt : c.loop-reduction.reduction-index < length c.args.reductions.now = omega arith in (
      c.note_reduction.ensures.count ∙ c.loop-reduction.invariant.0,
      λ i h.
          let within : i < vec_len c.loop-reduction.reduced = omega (arith, c.loop-reduction.invariant.0) in
          c.note_reduction.ensures.each i within
          ∙ (ap (λ o. first_of_two o (reduced_by (is_terminal i) c.as_slice.result.now c.reduction-item.result.1)) (c.loop-reduction.invariant.1 i h)
          ∙ (ap (λ ts. first_of_two (reduced_on (is_terminal i) (take c.loop-reduction.reduction-index c.args.reductions.now)) (reduced_by (is_terminal i) ts c.reduction-item.result.1)) c.as_slice.ensures
          ∙ sym (reduced_on_more (is_terminal i) _ _ c.reduction-item.result lt c.reduction-item.is))),
    )
