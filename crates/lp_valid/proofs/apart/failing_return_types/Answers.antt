use Rattle.lp_repr.specs.declared.repr.ActionFnDefn.{ActionFnDefn}
use Rattle.lp_valid.specs.PrefixRules.{is_clear, PatternsLack}
use Rattle.lp_valid.proofs.FirstFailing.{first_from_position, then_slice}
use Rattle.lp_valid.proofs.apart.failing_return_types.Goals as goal

pub returns : goal.returns
returns c =
    let g = c.args.grammar.now in
    let test = λ (a : ActionFnDefn). is_clear g.prefix g.types a.ret_type in
    then_slice test c.as_slice-actions.result.now g.action_fn_defns (PatternsLack g) c.first_return_type-first.result c.in_ok-rest.rest c.then.result c.as_slice-actions.ensures
    (first_from_position test c.as_slice-actions.result.now c.first_return_type-first.result c.first_return_type-first.ensures) c.in_ok-rest.ensures c.then.ensures
