use Rattle.std.proofs.lemmas.Result.{err_from_is_err_and}
use Rattle.lp_texts.specs.declared.faults.TextKind.TheVariants.{TypeText}
use Rattle.lp_texts.specs.TextRules.{AnswersLine}
use Rattle.std.proofs.Common.{map}
use Rattle.std.specs.List.{flat_map}
use Rattle.lp_repr.specs.ShownTypes.{type_text}
use Rattle.lp_repr.specs.declared.repr.ActionFnDefn.{ActionFnDefn}
use Rattle.lp_texts.specs.TypeTexts.{argument_texts}
use Rattle.lp_texts.proofs.Counting.{counts_then, counts_stop, counts_map}
use Rattle.lp_texts.proofs.types.check_actions.Goals as goal

pub returns-in_err-after_arguments : goal.returns-in_err-after_arguments
returns-in_err-after_arguments c =
    let actions = c.args.actions.now in
    let fault = c.in_err-after_arguments.field-0.0 in
    let p = err_from_is_err_and c.from_residual.result c.from_residual.ensures.1 in
    rw (p.1, p.2)
    (counts_stop TypeText AnswersLine (flat_map (λ (a : ActionFnDefn). argument_texts a.kind) actions) (map (λ (a : ActionFnDefn). type_text a.ret_type) actions) c.args.from fault c.in_err-after_arguments.ensures)

pub returns : goal.returns
returns c =
    let actions = c.args.actions.now in
    counts_then TypeText AnswersLine (flat_map (λ (a : ActionFnDefn). argument_texts a.kind) actions) (map (λ (a : ActionFnDefn). type_text a.ret_type) actions) c.args.from c.in_ok-after_arguments.after_arguments c.check_slice.result c.in_ok-after_arguments.ensures
    (counts_map TypeText (λ (a : ActionFnDefn). type_text a.ret_type) AnswersLine actions c.in_ok-after_arguments.after_arguments c.check_slice.result c.check_slice.ensures)
