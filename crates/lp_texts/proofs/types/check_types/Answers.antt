use Rattle.std.proofs.lemmas.Result.{err_from_is_err_and}
use Rattle.lp_texts.specs.declared.faults.TextKind.TheVariants.{TypeText}
use Rattle.lp_texts.specs.TextRules.{AnswersLine}
use Rattle.std.proofs.Common.{◌++◌, Err, subst}
use Rattle.lp_texts.specs.Counted.{Counts}
use Rattle.lp_texts.specs.TypeTexts.{declared_texts, header_texts, action_texts}
use Rattle.lp_texts.proofs.Counting.{counts_then, counts_stop}
use Rattle.lp_texts.proofs.types.check_types.Goals as goal

pub returns-in_err-after_declared : goal.returns-in_err-after_declared
returns-in_err-after_declared c =
    let g = c.args.grammar.now in
    let fault = c.in_err-after_declared.field-0.0 in
    let p = err_from_is_err_and c.from_residual.result c.from_residual.ensures.1 in
    rw (p.1, p.2)
    (counts_stop TypeText AnswersLine (declared_texts g.types) (header_texts g ++ action_texts g.action_fn_defns) 0 fault c.in_err-after_declared.ensures)

pub returns-in_err-after_headers : goal.returns-in_err-after_headers
returns-in_err-after_headers c =
    let g = c.args.grammar.now in
    let fault = c.in_err-after_headers.field-0.0 in
    let p = err_from_is_err_and c.from_residual-in_err-after_headers.result c.from_residual-in_err-after_headers.ensures.1 in
    rw (p.1, p.2)
    (counts_then TypeText AnswersLine (declared_texts g.types) (header_texts g ++ action_texts g.action_fn_defns) 0 c.in_ok-after_declared.after_declared (Err fault) c.in_ok-after_declared.ensures
    (counts_stop TypeText AnswersLine (header_texts g) (action_texts g.action_fn_defns) c.in_ok-after_declared.after_declared fault c.in_err-after_headers.ensures))

pub returns : goal.returns
returns c =
    let g = c.args.grammar.now in
    counts_then TypeText AnswersLine (declared_texts g.types) (header_texts g ++ action_texts g.action_fn_defns) 0 c.in_ok-after_declared.after_declared c.check_actions.result c.in_ok-after_declared.ensures
    (counts_then TypeText AnswersLine (header_texts g) (action_texts g.action_fn_defns) c.in_ok-after_declared.after_declared c.in_ok-after_headers.after_headers c.check_actions.result c.in_ok-after_headers.ensures
    (subst (λ a. Counts TypeText AnswersLine (action_texts a) c.in_ok-after_headers.after_headers c.check_actions.result) c.as_slice-actions.ensures c.check_actions.ensures))
