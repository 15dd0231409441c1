use Rattle.std.proofs.Common.{◌∙◌, sym, subst, length, Some, IfOk, refl}
use Rattle.lp_valid.specs.NameRules.{is_parameter_name}
use Rattle.lp_valid.specs.Places.{EachPasses, Then, IsFirstFailing}
use Rattle.lp_valid.specs.ValidGrammar.{ActionsAreNamed}
use Rattle.lp_valid.proofs.FirstFailing.{failing_in_list, failing_past_list}
use Rattle.lp_valid.proofs.grammars.failing_parameter_names.Goals as goal

pub returns-in-Some : goal.returns-in-Some
returns-in-Some c =
    subst (λ ps. IsFirstFailing (Then (length ps) (EachPasses (λ p. is_parameter_name p.name) ps) (ActionsAreNamed c.args.grammar.now)) (Some c.in-Some.place)) c.as_slice-parameters.ensures
    (failing_in_list (λ p. is_parameter_name p.name) c.as_slice-parameters.result.now (ActionsAreNamed c.args.grammar.now) c.in-Some.place c.in-Some.ensures)

pub returns : goal.returns
returns c =
    subst (λ ps. IfOk c.after.result (IsFirstFailing (Then (length ps) (EachPasses (λ p. is_parameter_name p.name) ps) (ActionsAreNamed c.args.grammar.now)))) c.as_slice-parameters.ensures
    (failing_past_list (λ p. is_parameter_name p.name) c.as_slice-parameters.result.now (ActionsAreNamed c.args.grammar.now) _ _ c.after.result refl (sym c.in_default.is ∙ c.failing_parameter_name.ensures) c.failing_action_names.ensures c.after.ensures)
