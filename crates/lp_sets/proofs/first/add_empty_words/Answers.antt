use Rattle.std.proofs.Common.{refl, arith}
use Rattle.std.proofs.lemmas.Option.{slice_get_read, slice_get_within}
use Rattle.lp_sets.proofs.FirstTableLemmas.{empty_more}
use Rattle.lp_sets.proofs.first.add_empty_words.Goals as goal

pub loop-rule-preserved : goal.loop-rule-preserved
loop-rule-preserved c =
    let rules = c.args.rules.now in
    let at = slice_get_read rules _ _ _ refl c.loop-rule-test.true c.rule-item.is in
    empty_more rules c.loop-rule.rule-index c.rule-item.result at c.loop-rule.empty c.add_empty_word.new.empty c.loop-rule.grew c.in_ok-new.new c.loop-rule.invariant.0 c.loop-rule.invariant.1 c.in_ok-new.ensures.added c.in_ok-new.ensures.unchanged

pub returns-clause-closed : goal.returns-clause-closed
returns-clause-closed c = λ g p r get. c.loop-rule.invariant.1 g p r (omega (arith, slice_get_within c.args.rules.now p r get)) get
