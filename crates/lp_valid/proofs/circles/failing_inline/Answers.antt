use Rattle.std.proofs.Common.{sym, subst}
use Rattle.lp_repr.specs.declared.repr.ActionFnDefn.{ActionFnDefn}
use Rattle.lp_valid.specs.InlineRules.{kind_has_symbol, Reaches, InlineIsSound}
use Rattle.lp_valid.specs.Places.{EachPasses, IsFirstFailing}
use Rattle.lp_valid.proofs.FirstFailing.{first_from_position, first_of_both}
use Rattle.lp_valid.proofs.circles.failing_inline.Goals as goal

pub returns : goal.returns
returns c =
    let actions = c.args.actions.now in
    let test = λ (a : ActionFnDefn). kind_has_symbol a.kind in
    subst (IsFirstFailing (InlineIsSound actions)) (sym c.least.ensures)
    (first_of_both (EachPasses test actions) (λ place. ¬ Reaches actions place place) c.first_empty.result c.in_ok-circle.circle (first_from_position test actions c.first_empty.result c.first_empty.ensures) c.in_ok-circle.ensures)
