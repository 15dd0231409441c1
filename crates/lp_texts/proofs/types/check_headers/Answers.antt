use Rattle.std.proofs.lemmas.Result.{err_from_is_err_and}
use Rattle.lp_texts.specs.declared.faults.TextKind.TheVariants.{TypeText}
use Rattle.lp_texts.specs.TextRules.{AnswersLine}
use Rattle.std.proofs.Common.{◌++◌, map, Ok, Err, subst}
use Rattle.std.specs.BTreeMap.{values}
use Rattle.lp_repr.specs.Shown.{parameter_text, visibility_text}
use Rattle.lp_repr.specs.ShownTypes.{type_text, clause_text}
use Rattle.lp_repr.specs.declared.repr.Parameter.{Parameter}
use Rattle.lp_repr.specs.declared.repr.NonterminalData.{NonterminalData}
use Rattle.lp_texts.specs.Counted.{Counts}
use Rattle.lp_texts.proofs.Counting.{counts_then, counts_stop, counts_map}
use Rattle.lp_texts.proofs.types.check_headers.Goals as goal

pub returns-in_err-after_names : goal.returns-in_err-after_names
returns-in_err-after_names c =
    let g = c.args.grammar.now in
    let fault = c.in_err-after_names.field-0.0 in
    let p = err_from_is_err_and c.from_residual.result c.from_residual.ensures.1 in
    rw (p.1, p.2)
    (counts_stop TypeText AnswersLine (map parameter_text g.type_parameters) (map (λ (p : Parameter). type_text p.ty) g.parameters ++ (map clause_text g.where_clauses ++ map (λ (d : NonterminalData). visibility_text d.visibility) (values g.nonterminals))) c.args.from fault (subst (λ l. Counts TypeText AnswersLine (map parameter_text l) c.args.from (Err fault)) c.as_slice-names.ensures (counts_map TypeText parameter_text AnswersLine c.as_slice-names.result.now c.args.from (Err fault) c.in_err-after_names.ensures)))

pub returns-in_err-after_types : goal.returns-in_err-after_types
returns-in_err-after_types c =
    let g = c.args.grammar.now in
    let fault = c.in_err-after_types.field-0.0 in
    let p = err_from_is_err_and c.from_residual-in_err-after_types.result c.from_residual-in_err-after_types.ensures.1 in
    rw (p.1, p.2)
    (counts_then TypeText AnswersLine (map parameter_text g.type_parameters) (map (λ (p : Parameter). type_text p.ty) g.parameters ++ (map clause_text g.where_clauses ++ map (λ (d : NonterminalData). visibility_text d.visibility) (values g.nonterminals))) c.args.from c.in_ok-after_names.after_names (Err fault) (subst (λ l. Counts TypeText AnswersLine (map parameter_text l) c.args.from (Ok c.in_ok-after_names.after_names)) c.as_slice-names.ensures (counts_map TypeText parameter_text AnswersLine c.as_slice-names.result.now c.args.from (Ok c.in_ok-after_names.after_names) c.in_ok-after_names.ensures))
    (counts_stop TypeText AnswersLine (map (λ (p : Parameter). type_text p.ty) g.parameters) (map clause_text g.where_clauses ++ map (λ (d : NonterminalData). visibility_text d.visibility) (values g.nonterminals)) c.in_ok-after_names.after_names fault (subst (λ l. Counts TypeText AnswersLine (map (λ (p : Parameter). type_text p.ty) l) c.in_ok-after_names.after_names (Err fault)) c.as_slice-parameters.ensures (counts_map TypeText (λ (p : Parameter). type_text p.ty) AnswersLine c.as_slice-parameters.result.now c.in_ok-after_names.after_names (Err fault) c.in_err-after_types.ensures))))

pub returns-in_err-after_clauses : goal.returns-in_err-after_clauses
returns-in_err-after_clauses c =
    let g = c.args.grammar.now in
    let fault = c.in_err-after_clauses.field-0.0 in
    let p = err_from_is_err_and c.from_residual-in_err-after_clauses.result c.from_residual-in_err-after_clauses.ensures.1 in
    rw (p.1, p.2)
    (counts_then TypeText AnswersLine (map parameter_text g.type_parameters) (map (λ (p : Parameter). type_text p.ty) g.parameters ++ (map clause_text g.where_clauses ++ map (λ (d : NonterminalData). visibility_text d.visibility) (values g.nonterminals))) c.args.from c.in_ok-after_names.after_names (Err fault) (subst (λ l. Counts TypeText AnswersLine (map parameter_text l) c.args.from (Ok c.in_ok-after_names.after_names)) c.as_slice-names.ensures (counts_map TypeText parameter_text AnswersLine c.as_slice-names.result.now c.args.from (Ok c.in_ok-after_names.after_names) c.in_ok-after_names.ensures))
    (counts_then TypeText AnswersLine (map (λ (p : Parameter). type_text p.ty) g.parameters) (map clause_text g.where_clauses ++ map (λ (d : NonterminalData). visibility_text d.visibility) (values g.nonterminals)) c.in_ok-after_names.after_names c.in_ok-after_types.after_types (Err fault) (subst (λ l. Counts TypeText AnswersLine (map (λ (p : Parameter). type_text p.ty) l) c.in_ok-after_names.after_names (Ok c.in_ok-after_types.after_types)) c.as_slice-parameters.ensures (counts_map TypeText (λ (p : Parameter). type_text p.ty) AnswersLine c.as_slice-parameters.result.now c.in_ok-after_names.after_names (Ok c.in_ok-after_types.after_types) c.in_ok-after_types.ensures))
    (counts_stop TypeText AnswersLine (map clause_text g.where_clauses) (map (λ (d : NonterminalData). visibility_text d.visibility) (values g.nonterminals)) c.in_ok-after_types.after_types fault (subst (λ l. Counts TypeText AnswersLine (map clause_text l) c.in_ok-after_types.after_types (Err fault)) c.as_slice-clauses.ensures (counts_map TypeText clause_text AnswersLine c.as_slice-clauses.result.now c.in_ok-after_types.after_types (Err fault) c.in_err-after_clauses.ensures)))))

pub returns : goal.returns
returns c =
    let g = c.args.grammar.now in
    counts_then TypeText AnswersLine (map parameter_text g.type_parameters) (map (λ (p : Parameter). type_text p.ty) g.parameters ++ (map clause_text g.where_clauses ++ map (λ (d : NonterminalData). visibility_text d.visibility) (values g.nonterminals))) c.args.from c.in_ok-after_names.after_names c.check_values.result (subst (λ l. Counts TypeText AnswersLine (map parameter_text l) c.args.from (Ok c.in_ok-after_names.after_names)) c.as_slice-names.ensures (counts_map TypeText parameter_text AnswersLine c.as_slice-names.result.now c.args.from (Ok c.in_ok-after_names.after_names) c.in_ok-after_names.ensures))
    (counts_then TypeText AnswersLine (map (λ (p : Parameter). type_text p.ty) g.parameters) (map clause_text g.where_clauses ++ map (λ (d : NonterminalData). visibility_text d.visibility) (values g.nonterminals)) c.in_ok-after_names.after_names c.in_ok-after_types.after_types c.check_values.result (subst (λ l. Counts TypeText AnswersLine (map (λ (p : Parameter). type_text p.ty) l) c.in_ok-after_names.after_names (Ok c.in_ok-after_types.after_types)) c.as_slice-parameters.ensures (counts_map TypeText (λ (p : Parameter). type_text p.ty) AnswersLine c.as_slice-parameters.result.now c.in_ok-after_names.after_names (Ok c.in_ok-after_types.after_types) c.in_ok-after_types.ensures))
    (counts_then TypeText AnswersLine (map clause_text g.where_clauses) (map (λ (d : NonterminalData). visibility_text d.visibility) (values g.nonterminals)) c.in_ok-after_types.after_types c.in_ok-after_clauses.after_clauses c.check_values.result (subst (λ l. Counts TypeText AnswersLine (map clause_text l) c.in_ok-after_types.after_types (Ok c.in_ok-after_clauses.after_clauses)) c.as_slice-clauses.ensures (counts_map TypeText clause_text AnswersLine c.as_slice-clauses.result.now c.in_ok-after_types.after_types (Ok c.in_ok-after_clauses.after_clauses) c.in_ok-after_clauses.ensures))
    (counts_map TypeText (λ (d : NonterminalData). visibility_text d.visibility) AnswersLine (values g.nonterminals) c.in_ok-after_clauses.after_clauses c.check_values.result c.check_values.ensures)))
