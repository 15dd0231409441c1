-- A type's tree is that of its parts with lifetimes.
use Rattle.std.proofs.Common.{◌≡◌, ℕ, ◌+◌, sym, ap, ◌∙◌, map, add_assoc}
use Rattle.lp_repr.specs.TypeTrees.{ret_trees, type_tree}
use Rattle.lp_repr.specs.declared.repr.TypeRepr.{TypeRepr}
use Rattle.lp_parts.specs.Named.{named, unnamed, unnamed_in, unnamed_of}
use Rattle.lp_parts.proofs.NamedRows.{tuple_named, tuple_unnamed, nominal_named, nominal_unnamed, object_named, object_unnamed, fn_named, fn_unnamed}
use Rattle.lp_parts.proofs.named.+named.Goals as goal

pub named_type-returns-in_ok-named_types-in-Tuple : goal.named_type-returns-in_ok-named_types-in-Tuple
named_type-returns-in_ok-named_types-in-Tuple t c =
    let prefix = c.args.prefix.now in
    let n = c.args.next.now in
    let made = c.in_ok-named_types-in-Tuple in
    record {
      tree = tuple_named prefix n made.field-0 c.in-Tuple.types made.ensures.trees
          ∙ ap (λ (ty : TypeRepr). named prefix n (type_tree ty)) (sym c.in-Tuple.is);
      next = made.ensures.next
          ∙ ap (λ (k : ℕ). n + k) (tuple_unnamed c.in-Tuple.types ∙ ap (λ (ty : TypeRepr). unnamed (type_tree ty)) (sym c.in-Tuple.is));
    }

pub named_type-returns-in_ok-named_nominal-in-Nominal : goal.named_type-returns-in_ok-named_nominal-in-Nominal
named_type-returns-in_ok-named_nominal-in-Nominal t c =
    let prefix = c.args.prefix.now in
    let n = c.args.next.now in
    let made = c.in_ok-named_nominal-in-Nominal in
    record {
      tree = nominal_named prefix n made.field-0 c.in-Nominal.nominal made.ensures.path made.ensures.trees
          ∙ ap (λ (ty : TypeRepr). named prefix n (type_tree ty)) (sym c.in-Nominal.is);
      next = made.ensures.next
          ∙ ap (λ (k : ℕ). n + k) (nominal_unnamed c.in-Nominal.nominal ∙ ap (λ (ty : TypeRepr). unnamed (type_tree ty)) (sym c.in-Nominal.is));
    }

pub named_type-returns-in_ok-named_nominal-in-TraitObject : goal.named_type-returns-in_ok-named_nominal-in-TraitObject
named_type-returns-in_ok-named_nominal-in-TraitObject t c =
    let prefix = c.args.prefix.now in
    let n = c.args.next.now in
    let made = c.in_ok-named_nominal-in-TraitObject in
    record {
      tree = object_named prefix n made.field-0 c.in-TraitObject.nominal made.ensures.path made.ensures.trees
          ∙ ap (λ (ty : TypeRepr). named prefix n (type_tree ty)) (sym c.in-TraitObject.is);
      next = made.ensures.next
          ∙ ap (λ (k : ℕ). n + k) (object_unnamed c.in-TraitObject.nominal ∙ ap (λ (ty : TypeRepr). unnamed (type_tree ty)) (sym c.in-TraitObject.is));
    }

pub named_type-returns-in_ok-named_ret-in-Fn : goal.named_type-returns-in_ok-named_ret-in-Fn
named_type-returns-in_ok-named_ret-in-Fn t c =
    let prefix = c.args.prefix.now in
    let n = c.args.next.now in
    let types = c.in_ok-named_types-in-Fn in
    let ret = c.in_ok-named_ret-in-Fn in
    let back = c.in-Fn.ret in
    record {
      tree = fn_named prefix n _ c.in_ok-binder_copy-in-Fn.field-0 c.in-Fn.binder c.in_ok-path_copy-in-Fn.field-0 c.in-Fn.path types.field-0 c.in-Fn.parameters ret.field-0 back c.in_ok-binder_copy-in-Fn.ensures c.in_ok-path_copy-in-Fn.ensures types.ensures.trees types.ensures.next ret.ensures.trees
          ∙ ap (λ (ty : TypeRepr). named prefix n (type_tree ty)) (sym c.in-Fn.is);
      next = ret.ensures.next
          ∙ (ap (λ (k : ℕ). k + unnamed_in (ret_trees back)) types.ensures.next
          ∙ (add_assoc n (unnamed_of (map type_tree c.in-Fn.parameters.items)) (unnamed_in (ret_trees back))
          ∙ ap (λ (k : ℕ). n + k) (fn_unnamed c.in-Fn.binder c.in-Fn.path c.in-Fn.parameters back ∙ ap (λ (ty : TypeRepr). unnamed (type_tree ty)) (sym c.in-Fn.is))));
    }
