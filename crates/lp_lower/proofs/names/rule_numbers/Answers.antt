use Rattle.std.proofs.Common.{◌≡◌, ◌-◌, cond, sym, ap, ◌∙◌, Some, arith}
use Rattle.std.specs.BTreeMap.{get}
use Rattle.std.specs.Cmp.Lexicographic.{texts_ties}
use Rattle.lp_repr.specs.Names.{same_text}
use Rattle.lp_lower.specs.Naming.{text_cmp}
use Rattle.lp_lower.proofs.FirstNumbers.{place_before}
use Rattle.lp_syntax.specs.declared.plain.PlainRule.{PlainRule}
use Rattle.lp_lower.proofs.names.rule_numbers.Goals as goal

pub loop-number-preserved : goal.loop-number-preserved
loop-number-preserved c =
    let rule = c.index-rules-number.result in
    let i = c.loop-number.number - 1 in
    let key = c.in_ok-clone.field-0 in
    let same : key ≡ rule.name.0 = c.in_ok-clone.ensures.cases ∙ ap (λ (r : PlainRule). r.name.0) (sym c.index-rules-number.is) in (
      omega arith,
      λ q.
          let old = get text_cmp c.loop-number.numbers q in
          place_before (λ r. same_text r.name.0 q) c.args.rules.now i c.loop-number.number rule old _ (omega arith) (omega arith) (sym c.index-rules-number.is) (c.loop-number.invariant.1 q) (c.in_ok-insert.ensures.updates.0 q ∙ (ap (λ b. cond b (Some i) old) (sym (texts_ties key q)) ∙ ap (λ k. cond (same_text k q) (Some i) old) same)),
    )
