use Rattle.std.proofs.Common.{◌∙◌, sym}
use Rattle.lp_valid.specs.NameRules.{start_has_names}
use Rattle.lp_valid.specs.ValidGrammar.{ParametersAreNamed}
use Rattle.lp_valid.proofs.FirstFailing.{failing_in_list, failing_past_list}
use Rattle.lp_valid.proofs.grammars.failing_names.Goals as goal

pub returns-in-Some : goal.returns-in-Some
returns-in-Some c = failing_in_list start_has_names c.args.grammar.now.start_nonterminals.entries (ParametersAreNamed c.args.grammar.now) c.in-Some.place c.in-Some.ensures

pub returns : goal.returns
returns c = failing_past_list start_has_names c.args.grammar.now.start_nonterminals.entries (ParametersAreNamed c.args.grammar.now) _ _ c.after.result c.len-before.ensures.len (sym c.in_default.is ∙ c.failing_start_name.ensures) c.in_ok-failing_parameter_names.ensures c.after.ensures
