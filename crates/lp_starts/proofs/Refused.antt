-- A grammar that is refused is not valid.
use Rattle.std.proofs.Common.{◌≡◌, ℕ, zero, suc, ◌≤◌, arith, refl}
use Rattle.lp_repr.specs.declared.repr.Grammar.{Grammar}
use Rattle.lp_valid.specs.Refusals.{RefusesGrammar}
use Rattle.lp_valid.specs.ValidGrammar.{GrammarRule, starts, names, prefixes, symbols, types, counts, inlines, fallibles, error_terminal, distinct_terminals, number, IsValidGrammar}
use Rattle.lp_valid.specs.declared.grammars.GrammarFault.TheVariants.{Rule}

-- the rule of a number
pub rule_of : (n : ℕ) → 1 ≤ n → n ≤ 10 → (rule : GrammarRule) × (number rule ≡ n)
rule_of zero low high = absurd (omega arith)
rule_of (suc zero) low high = (starts, refl)
rule_of (suc (suc zero)) low high = (names, refl)
rule_of (suc (suc (suc zero))) low high = (prefixes, refl)
rule_of (suc (suc (suc (suc zero)))) low high = (symbols, refl)
rule_of (suc (suc (suc (suc (suc zero))))) low high = (types, refl)
rule_of (suc (suc (suc (suc (suc (suc zero)))))) low high = (counts, refl)
rule_of (suc (suc (suc (suc (suc (suc (suc zero))))))) low high = (inlines, refl)
rule_of (suc (suc (suc (suc (suc (suc (suc (suc zero)))))))) low high = (fallibles, refl)
rule_of (suc (suc (suc (suc (suc (suc (suc (suc (suc zero))))))))) low high = (error_terminal, refl)
rule_of (suc (suc (suc (suc (suc (suc (suc (suc (suc (suc zero)))))))))) low high = (distinct_terminals, refl)
rule_of (suc (suc (suc (suc (suc (suc (suc (suc (suc (suc (suc n))))))))))) low high = absurd (omega arith)

pub not_valid : (g : Grammar) (rule place : ℕ) → RefusesGrammar g (Rule rule place) → IsValidGrammar g → ⊥
not_valid g rule place refused valid =
    let found = rule_of rule refused.0 refused.1 in
    (refused.2.1 found.0 found.1).0 (valid found.0 place)
