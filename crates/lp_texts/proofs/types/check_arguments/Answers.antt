use Rattle.std.proofs.lemmas.Result.{err_from_is_err_and}
use Rattle.lp_texts.specs.declared.faults.TextKind.TheVariants.{TypeText}
use Rattle.lp_texts.specs.TextRules.{AnswersLine}
use Rattle.std.proofs.Common.{◌+◌, Ok, Err}
use Rattle.lp_repr.specs.declared.repr.ActionFnDefn.{ActionFnDefn}
use Rattle.lp_texts.specs.TypeTexts.{argument_texts}
use Rattle.lp_texts.proofs.Counting.{counts_flat_more, counts_flat_front, counts_flat_taken}
use Rattle.lp_texts.proofs.types.check_arguments.Goals as goal

pub loop-action-preserved : goal.loop-action-preserved
loop-action-preserved c =
    counts_flat_more TypeText AnswersLine (λ (a : ActionFnDefn). argument_texts a.kind) c.args.actions.now c.loop-action.action-index c.action-item.result c.args.from c.loop-action.number (Ok c.in_ok-number.number)
    c.loop-action-test.true c.action-item.is c.loop-action.invariant c.in_ok-number.ensures

pub returns-in_err-number : goal.returns-in_err-number
returns-in_err-number c =
    let fault = c.in_err-number.field-0.0 in
    let p = err_from_is_err_and c.from_residual.result c.from_residual.ensures.1 in
    rw (p.1, p.2)
    (counts_flat_front TypeText AnswersLine (λ (a : ActionFnDefn). argument_texts a.kind) c.args.actions.now (c.loop-action.action-index + 1) c.args.from fault
    (counts_flat_more TypeText AnswersLine (λ (a : ActionFnDefn). argument_texts a.kind) c.args.actions.now c.loop-action.action-index c.action-item.result c.args.from c.loop-action.number (Err fault)
    c.loop-action-test.true c.action-item.is c.loop-action.invariant c.in_err-number.ensures))

pub returns : goal.returns
returns c = counts_flat_taken TypeText AnswersLine (λ (a : ActionFnDefn). argument_texts a.kind) c.args.actions.now c.loop-action.action-index c.args.from c.loop-action.number c.loop-action-test.false c.loop-action.invariant
