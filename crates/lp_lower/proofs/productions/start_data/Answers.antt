use Rattle.std.proofs.Common.{[], ◌∷◌, ap, ◌∙◌}
use Rattle.lp_repr.specs.declared.repr.Symbol.TheVariants.{Nonterminal}
use Rattle.lp_lower.proofs.Made.{made_alike, data_alike}
use Rattle.lp_lower.proofs.productions.start_data.Goals as goal

pub returns : goal.returns
returns c =
    data_alike _ _ _ _ c.visibility_of.ensures
    (c.in_ok-productions.ensures.items
    ∙ ap (λ p. p ∷ []) (made_alike _ _ _ _ c.args.action c.in_ok-nonterminal.ensures (c.in_ok-symbols.ensures.items ∙ ap (λ n. Nonterminal n ∷ []) c.in_ok-name.ensures)))
