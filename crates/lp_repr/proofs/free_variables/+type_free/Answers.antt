use Rattle.std.proofs.Common.{◌≡◌, ◌++◌, sym, ap, ◌∙◌, subst, OnOk, List}
use Rattle.std.specs.List.{flat_map}
use Rattle.lp_repr.specs.FreeVariables.{unbound, free_in_path, free_in_type, free_in_option}
use Rattle.lp_repr.specs.declared.parse_tree.TypeParameter.{TypeParameter}
use Rattle.lp_repr.proofs.FreeRows.{tuple_free, nominal_free, object_free, fn_free}
use Rattle.lp_repr.proofs.free_variables.+type_free.Goals as goal

pub TypeReprFreeVariables::push_free_variables-returns-in-Tuple :
    goal.TypeReprFreeVariables::push_free_variables-returns-in-Tuple
TypeReprFreeVariables::push_free_variables-returns-in-Tuple t c =
    let declared = c.args.type_parameters.now in
    let e = ap (flat_map (free_in_type declared)) c.as_slice.ensures.value ∙ sym (tuple_free declared c.in-Tuple.types) ∙ ap (free_in_type declared) (sym c.in-Tuple.is) in
    subst (λ (l : List TypeParameter). OnOk c.push_types.result (c.push_types.new.free.items ≡ c.args.free.now.items ++ l)) e c.push_types.ensures

pub TypeReprFreeVariables::push_free_variables-returns-in-Nominal :
    goal.TypeReprFreeVariables::push_free_variables-returns-in-Nominal
TypeReprFreeVariables::push_free_variables-returns-in-Nominal t c =
    let declared = c.args.type_parameters.now in
    let e = sym (nominal_free declared c.in-Nominal.nominal) ∙ ap (free_in_type declared) (sym c.in-Nominal.is) in
    subst (λ (l : List TypeParameter). OnOk c.push_free_variables-in-Nominal.result (c.push_free_variables-in-Nominal.new.free.items ≡ c.args.free.now.items ++ l)) e c.push_free_variables-in-Nominal.ensures

pub TypeReprFreeVariables::push_free_variables-returns-in-TraitObject :
    goal.TypeReprFreeVariables::push_free_variables-returns-in-TraitObject
TypeReprFreeVariables::push_free_variables-returns-in-TraitObject t c =
    let declared = c.args.type_parameters.now in
    let e = sym (object_free declared c.in-TraitObject.nominal) ∙ ap (free_in_type declared) (sym c.in-TraitObject.is) in
    subst (λ (l : List TypeParameter). OnOk c.push_free_variables-in-TraitObject.result (c.push_free_variables-in-TraitObject.new.free.items ≡ c.args.free.now.items ++ l)) e c.push_free_variables-in-TraitObject.ensures

pub TypeReprFreeVariables::push_free_variables-returns-in_ok-push_ret-in-Fn :
    goal.TypeReprFreeVariables::push_free_variables-returns-in_ok-push_ret-in-Fn
TypeReprFreeVariables::push_free_variables-returns-in_ok-push_ret-in-Fn t c =
    let declared = c.args.type_parameters.now in
    let path = free_in_path declared c.in-Fn.path in
    let row = flat_map (free_in_type declared) c.in-Fn.parameters.items in
    let ret = free_in_option (λ b. free_in_type declared b.value) c.in-Fn.ret in
    let one = c.in_ok-push_free_variables-in-Fn.ensures ∙ ap (λ (l : List TypeParameter). l ++ path) c.new-inner.ensures.items in
    let two = c.in_ok-push_parameters-in-Fn.ensures ∙ ap (λ (l : List TypeParameter). l ++ row) one in
    let three = c.in_ok-push_ret-in-Fn.ensures ∙ ap (λ (l : List TypeParameter). l ++ ret) two in
    let e = ap (λ (b : List TypeParameter). unbound b c.push_ret.new.free.items) c.as_slice-in-Fn.ensures.value ∙ ap (unbound c.in-Fn.binder.items) three ∙ sym (fn_free declared c.in-Fn.binder c.in-Fn.path c.in-Fn.parameters c.in-Fn.ret) ∙ ap (free_in_type declared) (sym c.in-Fn.is) in
    subst (λ (l : List TypeParameter). OnOk c.push_unbound.result (c.push_unbound.new.free.items ≡ c.args.free.now.items ++ l)) e c.push_unbound.ensures
