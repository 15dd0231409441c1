use Rattle.std.proofs.Common.{ap, ◌∙◌}
use Rattle.std.specs.Option.{option_map_or}
use Rattle.lp_repr.specs.TypeTrees.{type_tree}
use Rattle.lp_syntax.specs.declared.plain.PlainRule.{PlainRule}
use Rattle.lp_lower.proofs.types.rule_type.Goals as goal

pub returns-in_ok-clone-in-None : goal.returns-in_ok-clone-in-None
returns-in_ok-clone-in-None c = c.in_ok-clone-in-None.ensures.cases ∙ ap (λ o. option_map_or (λ (r : PlainRule). type_tree r.ty) o (type_tree c.args.names.now.plain.now.token)) c.in-None.ensures

pub returns-in_ok-clone-in-Some : goal.returns-in_ok-clone-in-Some
returns-in_ok-clone-in-Some c = c.in_ok-clone-in-Some.ensures.cases ∙ ap (λ o. option_map_or (λ (r : PlainRule). type_tree r.ty) o (type_tree c.args.names.now.plain.now.token)) c.in-Some.ensures
