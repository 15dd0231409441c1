use Rattle.std.proofs.Common.{◌≡◌, ℕ, Option, arith}
use Rattle.lp_repr.specs.declared.repr.Grammar.{Grammar}
use Rattle.lp_valid.specs.Places.{IsFirstFailing}
use Rattle.lp_valid.specs.PrefixRules.{PrefixIsApart}
use Rattle.lp_valid.specs.ValidGrammar.{GrammarRule, starts, names, prefixes, symbols, types, counts, inlines, fallibles, error_terminal, distinct_terminals, number, Says}
use Rattle.lp_valid.proofs.grammars.check_symbols.Goals as goal

third_rule : (g : Grammar) (failing : Option ℕ) → IsFirstFailing (PrefixIsApart g) failing → (r : GrammarRule) → number r ≡ 3 → IsFirstFailing (Says g r) failing
third_rule g failing h starts e = absurd (omega arith)
third_rule g failing h names e = absurd (omega arith)
third_rule g failing h prefixes e = h
third_rule g failing h symbols e = absurd (omega arith)
third_rule g failing h types e = absurd (omega arith)
third_rule g failing h counts e = absurd (omega arith)
third_rule g failing h inlines e = absurd (omega arith)
third_rule g failing h fallibles e = absurd (omega arith)
third_rule g failing h error_terminal e = absurd (omega arith)
third_rule g failing h distinct_terminals e = absurd (omega arith)

pub passes-requires-3-clause-this : goal.passes-requires-3-clause-this
passes-requires-3-clause-this c = third_rule c.args.grammar.now c.in_ok-failing_prefix.field-0 c.in_ok-failing_prefix.ensures
