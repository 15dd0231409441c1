use Rattle.std.proofs.Common.{Ok, Err, refl, subst}
use Rattle.std.proofs.lemmas.Result.{err_from_is_err_and}
use Rattle.std.specs.BTreeMap.{keys, values}
use Rattle.lp_repr.specs.Shown.{terminal_text}
use Rattle.lp_repr.specs.declared.repr.TerminalString.{TerminalString}
use Rattle.lp_repr.specs.declared.repr.NonterminalString.{NonterminalString}
use Rattle.lp_repr.specs.declared.repr.TokenPattern.{TokenPattern}
use Rattle.lp_repr.specs.declared.repr.ActionFnDefn.{ActionFnDefn}
use Rattle.lp_texts.specs.declared.faults.TextKind.TheVariants.{Use, Attribute, Terminal, Nonterminal, Pattern, TypeText, Code}
use Rattle.lp_texts.specs.Counted.{Counts}
use Rattle.lp_texts.specs.UserCode.{AnswersUse, AnswersAction}
use Rattle.lp_texts.specs.Pattern.{AnswersPattern}
use Rattle.lp_texts.specs.TypeTexts.{type_texts}
use Rattle.lp_texts.specs.TextRules.{AnswersAttribute, AnswersTerminal, AnswersNonterminal, AnswersLine}
use Rattle.lp_texts.proofs.EachKind.{meet_none, meet_more, meet_all, fault_at}
use Rattle.lp_texts.proofs.grammar.check_texts.Goals as goal

pub returns-in_err-_uses : goal.returns-in_err-_uses
returns-in_err-_uses c =
    let g = c.args.grammar.now in
    let fault = c.in_err-_uses.field-0.0 in
    let p = err_from_is_err_and c.from_residual.result c.from_residual.ensures.1 in
    rw (p.1, p.2)
    (fault_at g Use 0 AnswersUse g.uses fault refl (λ n b f. f)
    (meet_none g)
    (subst (λ l. Counts Use AnswersUse l 0 (Err fault)) c.as_slice-uses.ensures c.in_err-_uses.ensures))

pub returns-in_err-_attributes : goal.returns-in_err-_attributes
returns-in_err-_attributes c =
    let g = c.args.grammar.now in
    let fault = c.in_err-_attributes.field-0.0 in
    let p = err_from_is_err_and c.from_residual-in_err-_attributes.result c.from_residual-in_err-_attributes.ensures.1 in
    rw (p.1, p.2)
    (fault_at g Attribute 1 AnswersAttribute g.module_attributes fault refl (λ n b f. f)
    (meet_more g Use 0 refl (meet_none g)
    (subst (λ l. Counts Use AnswersUse l 0 (Ok c.in_ok-_uses._uses)) c.as_slice-uses.ensures c.in_ok-_uses.ensures).0)
    (subst (λ l. Counts Attribute AnswersAttribute l 0 (Err fault)) c.as_slice-attributes.ensures c.in_err-_attributes.ensures))

pub returns-in_err-_terminals : goal.returns-in_err-_terminals
returns-in_err-_terminals c =
    let g = c.args.grammar.now in
    let fault = c.in_err-_terminals.field-0.0 in
    let p = err_from_is_err_and c.from_residual-in_err-_terminals.result c.from_residual-in_err-_terminals.ensures.1 in
    rw (p.1, p.2)
    (fault_at g Terminal 2 (λ (t : TerminalString). AnswersTerminal (terminal_text t)) g.terminals.all fault refl (λ n b f. f)
    (meet_more g Attribute 1 refl (meet_more g Use 0 refl (meet_none g)
    (subst (λ l. Counts Use AnswersUse l 0 (Ok c.in_ok-_uses._uses)) c.as_slice-uses.ensures c.in_ok-_uses.ensures).0)
    (subst (λ l. Counts Attribute AnswersAttribute l 0 (Ok c.in_ok-_attributes._attributes)) c.as_slice-attributes.ensures c.in_ok-_attributes.ensures).0)
    (subst (λ l. Counts Terminal (λ (t : TerminalString). AnswersTerminal (terminal_text t)) l 0 (Err fault)) c.as_slice-terminals.ensures c.in_err-_terminals.ensures))

pub returns-in_err-_nonterminals : goal.returns-in_err-_nonterminals
returns-in_err-_nonterminals c =
    let g = c.args.grammar.now in
    let fault = c.in_err-_nonterminals.field-0.0 in
    let p = err_from_is_err_and c.from_residual-in_err-_nonterminals.result c.from_residual-in_err-_nonterminals.ensures.1 in
    rw (p.1, p.2)
    (fault_at g Nonterminal 3 (λ (n : NonterminalString). AnswersNonterminal n.0) (keys g.nonterminals) fault refl (λ n b f. f)
    (meet_more g Terminal 2 refl (meet_more g Attribute 1 refl (meet_more g Use 0 refl (meet_none g)
    (subst (λ l. Counts Use AnswersUse l 0 (Ok c.in_ok-_uses._uses)) c.as_slice-uses.ensures c.in_ok-_uses.ensures).0)
    (subst (λ l. Counts Attribute AnswersAttribute l 0 (Ok c.in_ok-_attributes._attributes)) c.as_slice-attributes.ensures c.in_ok-_attributes.ensures).0)
    (subst (λ l. Counts Terminal (λ (t : TerminalString). AnswersTerminal (terminal_text t)) l 0 (Ok c.in_ok-_terminals._terminals)) c.as_slice-terminals.ensures c.in_ok-_terminals.ensures).0)
    c.in_err-_nonterminals.ensures)

pub returns-in_err-_patterns : goal.returns-in_err-_patterns
returns-in_err-_patterns c =
    let g = c.args.grammar.now in
    let fault = c.in_err-_patterns.field-0.0 in
    let p = err_from_is_err_and c.from_residual-in_err-_patterns.result c.from_residual-in_err-_patterns.ensures.1 in
    rw (p.1, p.2)
    (fault_at g Pattern 4 (λ (p : TokenPattern). AnswersPattern p.pieces) (values g.conversions) fault refl (λ n b f. f)
    (meet_more g Nonterminal 3 refl (meet_more g Terminal 2 refl (meet_more g Attribute 1 refl (meet_more g Use 0 refl (meet_none g)
    (subst (λ l. Counts Use AnswersUse l 0 (Ok c.in_ok-_uses._uses)) c.as_slice-uses.ensures c.in_ok-_uses.ensures).0)
    (subst (λ l. Counts Attribute AnswersAttribute l 0 (Ok c.in_ok-_attributes._attributes)) c.as_slice-attributes.ensures c.in_ok-_attributes.ensures).0)
    (subst (λ l. Counts Terminal (λ (t : TerminalString). AnswersTerminal (terminal_text t)) l 0 (Ok c.in_ok-_terminals._terminals)) c.as_slice-terminals.ensures c.in_ok-_terminals.ensures).0)
    c.in_ok-_nonterminals.ensures.0)
    c.in_err-_patterns.ensures)

pub returns-in_err-_types : goal.returns-in_err-_types
returns-in_err-_types c =
    let g = c.args.grammar.now in
    let fault = c.in_err-_types.field-0.0 in
    let p = err_from_is_err_and c.from_residual-in_err-_types.result c.from_residual-in_err-_types.ensures.1 in
    rw (p.1, p.2)
    (fault_at g TypeText 5 AnswersLine (type_texts g) fault refl (λ n b f. f)
    (meet_more g Pattern 4 refl (meet_more g Nonterminal 3 refl (meet_more g Terminal 2 refl (meet_more g Attribute 1 refl (meet_more g Use 0 refl (meet_none g)
    (subst (λ l. Counts Use AnswersUse l 0 (Ok c.in_ok-_uses._uses)) c.as_slice-uses.ensures c.in_ok-_uses.ensures).0)
    (subst (λ l. Counts Attribute AnswersAttribute l 0 (Ok c.in_ok-_attributes._attributes)) c.as_slice-attributes.ensures c.in_ok-_attributes.ensures).0)
    (subst (λ l. Counts Terminal (λ (t : TerminalString). AnswersTerminal (terminal_text t)) l 0 (Ok c.in_ok-_terminals._terminals)) c.as_slice-terminals.ensures c.in_ok-_terminals.ensures).0)
    c.in_ok-_nonterminals.ensures.0)
    c.in_ok-_patterns.ensures.0)
    c.in_err-_types.ensures)

pub returns-in_err-_codes : goal.returns-in_err-_codes
returns-in_err-_codes c =
    let g = c.args.grammar.now in
    let fault = c.in_err-_codes.field-0.0 in
    let p = err_from_is_err_and c.from_residual-in_err-_codes.result c.from_residual-in_err-_codes.ensures.1 in
    rw (p.1, p.2)
    (fault_at g Code 6 (λ (a : ActionFnDefn). AnswersAction a.kind) g.action_fn_defns fault refl (λ n b f. f)
    (meet_more g TypeText 5 refl (meet_more g Pattern 4 refl (meet_more g Nonterminal 3 refl (meet_more g Terminal 2 refl (meet_more g Attribute 1 refl (meet_more g Use 0 refl (meet_none g)
    (subst (λ l. Counts Use AnswersUse l 0 (Ok c.in_ok-_uses._uses)) c.as_slice-uses.ensures c.in_ok-_uses.ensures).0)
    (subst (λ l. Counts Attribute AnswersAttribute l 0 (Ok c.in_ok-_attributes._attributes)) c.as_slice-attributes.ensures c.in_ok-_attributes.ensures).0)
    (subst (λ l. Counts Terminal (λ (t : TerminalString). AnswersTerminal (terminal_text t)) l 0 (Ok c.in_ok-_terminals._terminals)) c.as_slice-terminals.ensures c.in_ok-_terminals.ensures).0)
    c.in_ok-_nonterminals.ensures.0)
    c.in_ok-_patterns.ensures.0)
    c.in_ok-_types.ensures.0)
    (subst (λ l. Counts Code (λ (a : ActionFnDefn). AnswersAction a.kind) l 0 (Err fault)) c.as_slice-actions.ensures c.in_err-_codes.ensures))

pub returns : goal.returns
returns c =
    let g = c.args.grammar.now in
    meet_all g
    (meet_more g Code 6 refl (meet_more g TypeText 5 refl (meet_more g Pattern 4 refl (meet_more g Nonterminal 3 refl (meet_more g Terminal 2 refl (meet_more g Attribute 1 refl (meet_more g Use 0 refl (meet_none g)
    (subst (λ l. Counts Use AnswersUse l 0 (Ok c.in_ok-_uses._uses)) c.as_slice-uses.ensures c.in_ok-_uses.ensures).0)
    (subst (λ l. Counts Attribute AnswersAttribute l 0 (Ok c.in_ok-_attributes._attributes)) c.as_slice-attributes.ensures c.in_ok-_attributes.ensures).0)
    (subst (λ l. Counts Terminal (λ (t : TerminalString). AnswersTerminal (terminal_text t)) l 0 (Ok c.in_ok-_terminals._terminals)) c.as_slice-terminals.ensures c.in_ok-_terminals.ensures).0)
    c.in_ok-_nonterminals.ensures.0)
    c.in_ok-_patterns.ensures.0)
    c.in_ok-_types.ensures.0)
    (subst (λ l. Counts Code (λ (a : ActionFnDefn). AnswersAction a.kind) l 0 (Ok c.in_ok-_codes._codes)) c.as_slice-actions.ensures c.in_ok-_codes.ensures).0)
