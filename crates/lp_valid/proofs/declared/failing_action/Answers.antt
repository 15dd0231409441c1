use Rattle.std.proofs.Common.{◌≡◌, subst}
use Rattle.lp_repr.specs.declared.repr.ActionFnDefn.{ActionFnDefn}
use Rattle.lp_valid.specs.Members.{holds}
use Rattle.lp_valid.specs.Places.{EachPasses, IsFirstFailing}
use Rattle.lp_valid.specs.SymbolRules.{kind_is_known_by, has_terminal}
use Rattle.lp_valid.proofs.declared.failing_action.Goals as goal

pub returns : goal.returns
returns c =
    let g = c.args.grammar.now in
    let same : holds c.args.terminals.now ≡ has_terminal g = λ i t. c.requires t i in
    subst (λ actions. IsFirstFailing (EachPasses (λ (a : ActionFnDefn). kind_is_known_by g (has_terminal g) a.kind) actions) c.first_unknown_action.result) c.as_slice.ensures
    (subst (λ test. IsFirstFailing (EachPasses (λ (a : ActionFnDefn). kind_is_known_by g test a.kind) c.as_slice.result.now) c.first_unknown_action.result) same c.first_unknown_action.ensures)
