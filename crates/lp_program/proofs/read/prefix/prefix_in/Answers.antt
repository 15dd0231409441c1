use Rattle.std.proofs.Common.{◌++◌, codes, ap, append_assoc, sym, ◌∙◌}
use Rattle.lp_program.proofs.Prefixes.{empty_prefix, name_cut, prefix_cut, renamed_is, unnamed_prefix}
use Rattle.lp_program.proofs.Taking.{prefix_shown}
use Rattle.lp_program.proofs.read.prefix.prefix_in.Goals as goal

pub returns-in_default-clause-exact : goal.returns-in_default-clause-exact
returns-in_default-clause-exact c = λ prefix e is. c.in_default.ensures.cases (prefix ++ codes "lalrpop_util") (e ∙ sym (append_assoc prefix (codes "lalrpop_util") (codes ";")))

pub returns-in_default-strip_suffix-clause-exact : goal.returns-in_default-strip_suffix-clause-exact
returns-in_default-strip_suffix-clause-exact c = λ prefix e is.
    let off = c.in-Some.ensures.cases in
    c.in_default-strip_suffix.ensures.cases prefix (name_cut c.args.shown.now c.in-Some.name.now prefix (off.1.1 ∙ ap (λ x. x ++ codes ";") (sym off.2)) e)

pub returns-then-is_empty-clause-exact : goal.returns-then-is_empty-clause-exact
returns-then-is_empty-clause-exact c = λ prefix e is.
    let off = c.in-Some.ensures.cases in
    let end = c.in-Some-strip_suffix.ensures.cases in
    let name = name_cut c.args.shown.now c.in-Some.name.now prefix (off.1.1 ∙ ap (λ x. x ++ codes ";") (sym off.2)) e in
    let cut = prefix_cut c.in-Some-strip_suffix.prefix.now prefix c.in-Some.name.now (end.1.1 ∙ ap (λ x. x ++ codes "lalrpop_util") (sym end.2)) name in
    empty_prefix c.in-Some-strip_suffix.prefix.now prefix cut (sym c.is_empty.ensures ∙ c.if-is_empty.true) is

pub returns-then-not-is_identifier-clause-exact : goal.returns-then-not-is_identifier-clause-exact
returns-then-not-is_identifier-clause-exact c = λ prefix e is.
    let off = c.in-Some.ensures.cases in
    let name = name_cut c.args.shown.now c.in-Some.name.now prefix (off.1.1 ∙ ap (λ x. x ++ codes ";") (sym off.2)) e in
    unnamed_prefix prefix c.in-Some.name.now name (sym c.is_identifier.ensures ∙ c.if-not-is_identifier.true) is

pub returns : goal.returns
returns c =
    let off = c.in-Some.ensures.cases in
    let end = c.in-Some-strip_suffix.ensures.cases in
    let name = end.1.1 ∙ ap (λ x. x ++ codes "lalrpop_util") (sym end.2) in
    record {
      fits = prefix_shown c.in-Some-strip_suffix.prefix.now c.in-Some.name.now (sym c.is_empty.ensures ∙ c.if-is_empty.false) (sym c.is_identifier.ensures ∙ c.if-not-is_identifier.false) name;
      exact = renamed_is c.args.shown.now c.in-Some.name.now c.in-Some-strip_suffix.prefix.now (off.1.1 ∙ ap (λ x. x ++ codes ";") (sym off.2)) name;
    }
