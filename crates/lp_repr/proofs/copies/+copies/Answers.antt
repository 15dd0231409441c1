-- A copy's tree is that of the copies of its parts.
use Rattle.std.proofs.Common.{◌≡◌, sym, ap, ◌∙◌, map}
use Rattle.lp_repr.specs.TypeTrees.{tuple_type, object_type, function_type, trees_of, type_tree, types_trees, ret_trees}
use Rattle.lp_repr.proofs.TreeRows.{tuple_treed, nominal_treed, object_treed, fn_treed}
use Rattle.lp_repr.proofs.copies.+copies.Goals as goal

pub copy_type-returns-in_ok-copy_types-in-Tuple : goal.copy_type-returns-in_ok-copy_types-in-Tuple
copy_type-returns-in_ok-copy_types-in-Tuple t c =
    tuple_treed c.in_ok-copy_types-in-Tuple.field-0
    ∙ ap (λ l. tuple_type (trees_of l)) c.in_ok-copy_types-in-Tuple.ensures
    ∙ sym (tuple_treed c.in-Tuple.types)
    ∙ ap type_tree (sym c.in-Tuple.is)

pub copy_type-returns-in_ok-copy_nominal-in-Nominal : goal.copy_type-returns-in_ok-copy_nominal-in-Nominal
copy_type-returns-in_ok-copy_nominal-in-Nominal t c =
    nominal_treed c.in_ok-copy_nominal-in-Nominal.field-0
    ∙ c.in_ok-copy_nominal-in-Nominal.ensures.tree
    ∙ sym (nominal_treed c.in-Nominal.nominal)
    ∙ ap type_tree (sym c.in-Nominal.is)

pub copy_type-returns-in_ok-copy_nominal-in-TraitObject : goal.copy_type-returns-in_ok-copy_nominal-in-TraitObject
copy_type-returns-in_ok-copy_nominal-in-TraitObject t c =
    let copy = c.in_ok-copy_nominal-in-TraitObject.field-0 in
    object_treed copy
    ∙ ap (λ path. object_type path (types_trees copy.types.items)) c.in_ok-copy_nominal-in-TraitObject.ensures.path
    ∙ ap (object_type c.in-TraitObject.nominal.path) c.in_ok-copy_nominal-in-TraitObject.ensures.types
    ∙ sym (object_treed c.in-TraitObject.nominal)
    ∙ ap type_tree (sym c.in-TraitObject.is)

pub copy_type-returns-in_ok-copy_ret-in-Fn : goal.copy_type-returns-in_ok-copy_ret-in-Fn
copy_type-returns-in_ok-copy_ret-in-Fn t c =
    let binder = c.in_ok-copy_binder-in-Fn.field-0 in
    let path = c.in_ok-copy_path-in-Fn.field-0 in
    let types = c.in_ok-copy_types-in-Fn.field-0 in
    let ret = c.in_ok-copy_ret-in-Fn.field-0 in
    fn_treed binder path types ret
    ∙ ap (λ l. function_type l path (types_trees types.items) (ret_trees ret)) c.in_ok-copy_binder-in-Fn.ensures
    ∙ ap (λ p. function_type c.in-Fn.binder.items p (types_trees types.items) (ret_trees ret)) c.in_ok-copy_path-in-Fn.ensures
    ∙ ap (λ l. function_type c.in-Fn.binder.items c.in-Fn.path (trees_of l) (ret_trees ret)) c.in_ok-copy_types-in-Fn.ensures
    ∙ ap (function_type c.in-Fn.binder.items c.in-Fn.path (types_trees c.in-Fn.parameters.items)) c.in_ok-copy_ret-in-Fn.ensures
    ∙ sym (fn_treed c.in-Fn.binder c.in-Fn.path c.in-Fn.parameters c.in-Fn.ret)
    ∙ ap type_tree (sym c.in-Fn.is)
