use Rattle.std.proofs.Common.{ap, subst, sym, ◌∙◌, ◌<◌, length}
use Rattle.lp_state_parts.specs.declared.gotos.GotoArm.{GotoArm}
use Rattle.lp_state_parts.specs.Gotos.{IsCatchAll, range_counts}
use Rattle.lp_state_parts.proofs.GotoAnswers.{length-range_counts, target_at-get_or}
use Rattle.lp_state_parts.proofs.gotos.several.Goals as goal

pub returns : goal.returns
returns c =
    let catch : IsCatchAll (range_counts c.args.arms.items) c.catch_all-place.result =
    subst (λ xs. IsCatchAll (range_counts xs) c.catch_all-place.result) c.as_slice.ensures.value c.catch_all-place.ensures in
    let within : c.catch_all-place.result < length c.args.arms.items =
    subst (λ n. c.catch_all-place.result < n) (length-range_counts c.args.arms.items) catch.within in (
      c.catch_all-place.result,
      (
        c.requires,
        catch,
        c.remove-other.ensures.items,
        ap (λ (a : GotoArm). a.target) c.remove-other.ensures.value
            ∙ sym (target_at-get_or c.args.arms.items c.catch_all-place.result c.remove-other.result within),
      ),
    )
