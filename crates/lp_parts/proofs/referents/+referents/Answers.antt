-- The referents of a type are those of its parts.
use Rattle.std.proofs.Common.{◌≡◌, ◌++◌, sym, ap, ◌∙◌, subst, map, append_assoc, OnOk, List}
use Rattle.std.specs.List.{flat_map}
use Rattle.std.specs.Map.Iter.{deref}
use Rattle.lp_repr.specs.declared.repr.TypeRepr.{TypeRepr}
use Rattle.lp_parts.specs.MachineParameters.{referents, ret_referents}
use Rattle.lp_parts.proofs.ReferentRows.{tuple_referents, nominal_referents, object_referents, fn_referents}
use Rattle.lp_parts.proofs.referents.+referents.Goals as goal

pub push_referents-returns-in-Tuple : goal.push_referents-returns-in-Tuple
push_referents-returns-in-Tuple t c =
    let e = ap (flat_map referents) c.as_slice.ensures.value ∙ sym (tuple_referents c.in-Tuple.types) ∙ ap referents (sym c.in-Tuple.is) in
    subst (λ (l : List TypeRepr). OnOk c.push_each.result (map deref c.push_each.new.all.items ≡ map deref c.args.all.now.items ++ l)) e c.push_each.ensures

pub push_referents-returns-in-Nominal : goal.push_referents-returns-in-Nominal
push_referents-returns-in-Nominal t c =
    let e = ap (flat_map referents) c.as_slice-in-Nominal.ensures.value ∙ sym (nominal_referents c.in-Nominal.nominal) ∙ ap referents (sym c.in-Nominal.is) in
    subst (λ (l : List TypeRepr). OnOk c.push_each-in-Nominal.result (map deref c.push_each-in-Nominal.new.all.items ≡ map deref c.args.all.now.items ++ l)) e c.push_each-in-Nominal.ensures

pub push_referents-returns-in-TraitObject : goal.push_referents-returns-in-TraitObject
push_referents-returns-in-TraitObject t c =
    let e = ap (flat_map referents) c.as_slice-in-TraitObject.ensures.value ∙ sym (object_referents c.in-TraitObject.nominal) ∙ ap referents (sym c.in-TraitObject.is) in
    subst (λ (l : List TypeRepr). OnOk c.push_each-in-TraitObject.result (map deref c.push_each-in-TraitObject.new.all.items ≡ map deref c.args.all.now.items ++ l)) e c.push_each-in-TraitObject.ensures

pub push_referents-returns-in_ok-push_each-in-Fn : goal.push_referents-returns-in_ok-push_each-in-Fn
push_referents-returns-in_ok-push_each-in-Fn t c =
    let types = flat_map referents c.in-Fn.parameters.items in
    let ret = ret_referents c.in-Fn.ret in
    let one = c.in_ok-push_each-in-Fn.ensures ∙ ap (λ (ts : List TypeRepr). map deref c.args.all.now.items ++ flat_map referents ts) c.as_slice-in-Fn.ensures.value in
    let e = ap (λ (l : List TypeRepr). l ++ ret) one
    ∙ append_assoc (map deref c.args.all.now.items) types ret
    ∙ ap (λ (l : List TypeRepr). map deref c.args.all.now.items ++ l) (sym (fn_referents c.in-Fn.binder c.in-Fn.path c.in-Fn.parameters c.in-Fn.ret) ∙ ap referents (sym c.in-Fn.is)) in
    subst (λ (l : List TypeRepr). OnOk c.push_ret.result (map deref c.push_ret.new.all.items ≡ l)) e c.push_ret.ensures
