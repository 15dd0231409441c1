use Rattle.std.proofs.lemmas.Result.{err_from_is_err_and}
use Rattle.lp_texts.specs.declared.faults.TextKind.TheVariants.{TypeText}
use Rattle.lp_texts.specs.TextRules.{AnswersLine}
use Rattle.std.proofs.Common.{[], ◌∷◌, ◌++◌, map, Ok, Err}
use Rattle.std.specs.BTreeMap.{values}
use Rattle.lp_repr.specs.ShownTypes.{type_text}
use Rattle.lp_texts.specs.TypeTexts.{optional_text}
use Rattle.lp_texts.proofs.Counting.{counts_then, counts_stop, counts_map}
use Rattle.lp_texts.proofs.types.check_declared.Goals as goal

pub returns-in_err-after_location : goal.returns-in_err-after_location
returns-in_err-after_location c =
    let t = c.args.types.now in
    let fault = c.in_err-after_location.field-0.0 in
    let p = err_from_is_err_and c.from_residual.result c.from_residual.ensures.1 in
    rw (p.1, p.2)
    (counts_stop TypeText AnswersLine (optional_text t.loc) (type_text t.token ∷ [] ++ (optional_text t.error ++ (map type_text (values t.terminals) ++ map type_text (values t.nonterminals)))) c.args.from fault c.in_err-after_location.ensures)

pub returns-in_err-after_token : goal.returns-in_err-after_token
returns-in_err-after_token c =
    let t = c.args.types.now in
    let fault = c.in_err-after_token.field-0.0 in
    let p = err_from_is_err_and c.from_residual-in_err-after_token.result c.from_residual-in_err-after_token.ensures.1 in
    rw (p.1, p.2)
    (counts_then TypeText AnswersLine (optional_text t.loc) (type_text t.token ∷ [] ++ (optional_text t.error ++ (map type_text (values t.terminals) ++ map type_text (values t.nonterminals)))) c.args.from c.in_ok-after_location.after_location (Err fault) c.in_ok-after_location.ensures
    (counts_stop TypeText AnswersLine (type_text t.token ∷ []) (optional_text t.error ++ (map type_text (values t.terminals) ++ map type_text (values t.nonterminals))) c.in_ok-after_location.after_location fault (counts_map TypeText type_text AnswersLine (t.token ∷ []) c.in_ok-after_location.after_location (Err fault) c.in_err-after_token.ensures)))

pub returns-in_err-after_error : goal.returns-in_err-after_error
returns-in_err-after_error c =
    let t = c.args.types.now in
    let fault = c.in_err-after_error.field-0.0 in
    let p = err_from_is_err_and c.from_residual-in_err-after_error.result c.from_residual-in_err-after_error.ensures.1 in
    rw (p.1, p.2)
    (counts_then TypeText AnswersLine (optional_text t.loc) (type_text t.token ∷ [] ++ (optional_text t.error ++ (map type_text (values t.terminals) ++ map type_text (values t.nonterminals)))) c.args.from c.in_ok-after_location.after_location (Err fault) c.in_ok-after_location.ensures
    (counts_then TypeText AnswersLine (type_text t.token ∷ []) (optional_text t.error ++ (map type_text (values t.terminals) ++ map type_text (values t.nonterminals))) c.in_ok-after_location.after_location c.in_ok-after_token.after_token (Err fault) (counts_map TypeText type_text AnswersLine (t.token ∷ []) c.in_ok-after_location.after_location (Ok c.in_ok-after_token.after_token) c.in_ok-after_token.ensures)
    (counts_stop TypeText AnswersLine (optional_text t.error) (map type_text (values t.terminals) ++ map type_text (values t.nonterminals)) c.in_ok-after_token.after_token fault c.in_err-after_error.ensures)))

pub returns-in_err-after_terminals : goal.returns-in_err-after_terminals
returns-in_err-after_terminals c =
    let t = c.args.types.now in
    let fault = c.in_err-after_terminals.field-0.0 in
    let p = err_from_is_err_and c.from_residual-in_err-after_terminals.result c.from_residual-in_err-after_terminals.ensures.1 in
    rw (p.1, p.2)
    (counts_then TypeText AnswersLine (optional_text t.loc) (type_text t.token ∷ [] ++ (optional_text t.error ++ (map type_text (values t.terminals) ++ map type_text (values t.nonterminals)))) c.args.from c.in_ok-after_location.after_location (Err fault) c.in_ok-after_location.ensures
    (counts_then TypeText AnswersLine (type_text t.token ∷ []) (optional_text t.error ++ (map type_text (values t.terminals) ++ map type_text (values t.nonterminals))) c.in_ok-after_location.after_location c.in_ok-after_token.after_token (Err fault) (counts_map TypeText type_text AnswersLine (t.token ∷ []) c.in_ok-after_location.after_location (Ok c.in_ok-after_token.after_token) c.in_ok-after_token.ensures)
    (counts_then TypeText AnswersLine (optional_text t.error) (map type_text (values t.terminals) ++ map type_text (values t.nonterminals)) c.in_ok-after_token.after_token c.in_ok-after_error.after_error (Err fault) c.in_ok-after_error.ensures
    (counts_stop TypeText AnswersLine (map type_text (values t.terminals)) (map type_text (values t.nonterminals)) c.in_ok-after_error.after_error fault (counts_map TypeText type_text AnswersLine (values t.terminals) c.in_ok-after_error.after_error (Err fault) c.in_err-after_terminals.ensures)))))

pub returns : goal.returns
returns c =
    let t = c.args.types.now in
    counts_then TypeText AnswersLine (optional_text t.loc) (type_text t.token ∷ [] ++ (optional_text t.error ++ (map type_text (values t.terminals) ++ map type_text (values t.nonterminals)))) c.args.from c.in_ok-after_location.after_location c.check_values-2.result c.in_ok-after_location.ensures
    (counts_then TypeText AnswersLine (type_text t.token ∷ []) (optional_text t.error ++ (map type_text (values t.terminals) ++ map type_text (values t.nonterminals))) c.in_ok-after_location.after_location c.in_ok-after_token.after_token c.check_values-2.result (counts_map TypeText type_text AnswersLine (t.token ∷ []) c.in_ok-after_location.after_location (Ok c.in_ok-after_token.after_token) c.in_ok-after_token.ensures)
    (counts_then TypeText AnswersLine (optional_text t.error) (map type_text (values t.terminals) ++ map type_text (values t.nonterminals)) c.in_ok-after_token.after_token c.in_ok-after_error.after_error c.check_values-2.result c.in_ok-after_error.ensures
    (counts_then TypeText AnswersLine (map type_text (values t.terminals)) (map type_text (values t.nonterminals)) c.in_ok-after_error.after_error c.in_ok-after_terminals.after_terminals c.check_values-2.result (counts_map TypeText type_text AnswersLine (values t.terminals) c.in_ok-after_error.after_error (Ok c.in_ok-after_terminals.after_terminals) c.in_ok-after_terminals.ensures)
    (counts_map TypeText type_text AnswersLine (values t.nonterminals) c.in_ok-after_terminals.after_terminals c.check_values-2.result c.check_values-2.ensures))))
