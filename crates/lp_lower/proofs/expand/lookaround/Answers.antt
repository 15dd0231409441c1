use Rattle.std.proofs.Common.{ℕ, false, List, [], ◌∷◌, ◌++◌, ap, ◌∙◌}
use Rattle.lp_repr.specs.declared.repr.Symbol.{Symbol}
use Rattle.lp_lower.specs.declared.combine.Expanded.{Expanded}
use Rattle.lp_lower.proofs.expand.lookaround.Goals as goal

abbrev bare : ℕ → List Symbol → Expanded
bare action symbols = record { action = action; fallible = false; symbols = symbols }

pub returns : goal.returns
returns c = c.in_ok-push.ensures ∙ (ap (λ l. l ++ bare c.args.action c.empty-symbols.result ∷ []) c.empty-one.ensures ∙ ap (λ ss. bare c.args.action ss ∷ []) c.empty-symbols.ensures)
