use Rattle.std.proofs.Common.{cond, [], ◌∷◌, map, sym, ap, ◌∙◌}
use Rattle.lp_repr.specs.declared.repr.Symbol.TheVariants.{Nonterminal}
use Rattle.lp_lower.specs.Pieces.{itself, chosen}
use Rattle.lp_lower.proofs.expand.one_rule_part.Goals as goal

pub returns-then-rule : goal.returns-then-rule
returns-then-rule c = ap (λ b. cond b (map chosen c.args.expanded.now) (itself (Nonterminal c.args.rule.now.name) ∷ [])) (sym c.if-rule.true)

pub returns-in_ok-copy_nonterminal : goal.returns-in_ok-copy_nonterminal
returns-in_ok-copy_nonterminal c =
    ap (λ n. itself (Nonterminal n) ∷ []) c.in_ok-copy_nonterminal.ensures
    ∙ ap (λ b. cond b (map chosen c.args.expanded.now) (itself (Nonterminal c.args.rule.now.name) ∷ [])) (sym c.if-rule.false)
