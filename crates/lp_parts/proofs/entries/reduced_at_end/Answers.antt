use Rattle.std.proofs.Common.{ap, sym, ◌∙◌, ◌<◌, length, arith}
use Rattle.std.specs.List.{list_any}
use Rattle.lp_parts.specs.Entries.{is_eof}
use Rattle.lp_parts.proofs.Reductions.{reduced_on_found, reduced_on_passed}
use Rattle.lp_parts.proofs.entries.reduced_at_end.Goals as goal

pub returns-then-names_end : goal.returns-then-names_end
returns-then-names_end c =
    let lt : c.loop-reduction.reduction-index < length c.args.reductions.now = omega arith in
    sym (reduced_on_found is_eof _ _ c.reduction-item.result lt c.reduction-item.is c.loop-reduction.invariant
    (ap (list_any is_eof) (sym c.as_slice.ensures) ∙ (sym c.names_end.ensures ∙ c.if-names_end.true)))

pub loop-reduction-preserved : goal.loop-reduction-preserved
loop-reduction-preserved c =
    let lt : c.loop-reduction.reduction-index < length c.args.reductions.now = omega arith in
    reduced_on_passed is_eof _ _ c.reduction-item.result lt c.reduction-item.is c.loop-reduction.invariant
    (ap (list_any is_eof) (sym c.as_slice.ensures) ∙ (sym c.names_end.ensures ∙ c.if-names_end.false))
