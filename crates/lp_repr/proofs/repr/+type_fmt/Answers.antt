use Rattle.std.proofs.Common.{sym, ap, ◌∙◌, refl}
use Rattle.std.proofs.Output.{has_written_append, has_written_of_eq}
use Rattle.lp_repr.specs.ShownTypes.{tuple_text, type_text}
use Rattle.lp_repr.proofs.Joining.{joined_more}
use Rattle.lp_repr.proofs.ShownRows.{tuple_shown, nominal_shown, object_shown, fn_shown}
use Rattle.lp_repr.proofs.repr.+type_fmt.Goals as goal

pub TypeReprDisplay::fmt-returns-in-Tuple-clause-writes : goal.TypeReprDisplay::fmt-returns-in-Tuple-clause-writes
TypeReprDisplay::fmt-returns-in-Tuple-clause-writes g t c =
    let e = ap (tuple_text type_text) c.as_slice.ensures.value ∙ sym (tuple_shown c.in-Tuple.types) ∙ ap type_text (sym c.in-Tuple.is) in
    λ p ok. has_written_of_eq _ _ _ _ _ e (c.write_tuple.ensures p ok)

pub TypeReprDisplay::fmt-returns-in-Nominal-clause-writes :
    goal.TypeReprDisplay::fmt-returns-in-Nominal-clause-writes
TypeReprDisplay::fmt-returns-in-Nominal-clause-writes g t c =
    let e = sym (nominal_shown c.in-Nominal.nominal) ∙ ap type_text (sym c.in-Nominal.is) in
    λ p ok. has_written_of_eq _ _ _ _ _ e (c.fmt-in-Nominal.ensures.writes p ok)

pub TypeReprDisplay::fmt-returns-in_ok-write_str-in-TraitObject-clause-writes :
    goal.TypeReprDisplay::fmt-returns-in_ok-write_str-in-TraitObject-clause-writes
TypeReprDisplay::fmt-returns-in_ok-write_str-in-TraitObject-clause-writes g t c =
    let e = sym (object_shown c.in-TraitObject.nominal) ∙ ap type_text (sym c.in-TraitObject.is) in
    λ p ok. let dyn = c.in_ok-write_str-in-TraitObject.ensures.writes p refl in has_written_of_eq _ _ _ _ _ e (has_written_append _ _ _ _ _ _ dyn (c.fmt-in-TraitObject.ensures.writes dyn.plain ok))

pub TypeReprDisplay::fmt-returns-in_ok-write_parameters-in-Fn-clause-writes :
    goal.TypeReprDisplay::fmt-returns-in_ok-write_parameters-in-Fn-clause-writes
TypeReprDisplay::fmt-returns-in_ok-write_parameters-in-Fn-clause-writes g t c =
    let e = sym (fn_shown c.in-Fn.binder c.in-Fn.path c.in-Fn.parameters c.in-Fn.ret) ∙ ap type_text (sym c.in-Fn.is) in
    λ p ok. let head = c.in_ok-write_fn_head-in-Fn.ensures p refl in let parameters = c.in_ok-write_parameters-in-Fn.ensures head.plain refl in has_written_of_eq _ _ _ _ _ e (has_written_append _ _ _ _ _ _ head (has_written_append _ _ _ _ _ _ parameters (c.write_ret.ensures parameters.plain ok)))

pub write_types-loop-ty-preserved : goal.write_types-loop-ty-preserved
write_types-loop-ty-preserved g t c =
    joined_more g.W.Write.write_str_gives type_text c.args.types.now c.loop-ty.ty-index c.ty-item.result c.loop-ty.separator.now
    c.args.f.now c.loop-ty.f c.write_str.new.self c.fmt.new.f c.ty-item.is c.loop-ty-test.true c.loop-ty.invariant
    (λ plain. c.in_ok-write_str.ensures.writes plain refl) (λ plain. c.in_ok-fmt.ensures.writes plain refl)
