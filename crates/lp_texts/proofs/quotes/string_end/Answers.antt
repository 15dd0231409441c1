use Rattle.std.proofs.Common.{◌<◌, length, arith}
use Rattle.lp_texts.proofs.QuoteSteps.{step_escaped, step_backslash, step_plain, step_found}
use Rattle.lp_texts.proofs.quotes.string_end.Goals as goal
use Rattle.lp_texts.proofs.quotes.string_end.Goals.{then-escaped, else-escaped+then-text-i-eq92, else-escaped+else-text-i-eq92+else-text-i-eq34}

pub returns-then-text-i-eq34 : goal.returns-then-text-i-eq34
returns-then-text-i-eq34 c = (
  step_found c.args.text.now c.loop-i.i c.loop-i.escaped _ (omega arith) c.if-escaped.false c.if-text-i-eq34.true c.loop-i.invariant,
  omega arith,
  omega arith,
)

pub loop-i-preserved : goal.loop-i-preserved
loop-i-preserved c =
    let lt : c.loop-i.i < length c.args.text.now = omega arith in
    elim c.if-escaped.branch [
      | then-escaped w ↦ step_escaped c.args.text.now c.loop-i.i c.loop-i.escaped c.if-escaped.escaped _ lt w.if-escaped.true w.escaped-is c.loop-i.invariant
      | else-escaped+then-text-i-eq92 w ↦ step_backslash c.args.text.now c.loop-i.i c.loop-i.escaped c.if-escaped.escaped _ lt w.if-escaped.false w.escaped-is w.if-text-i-eq92.true c.loop-i.invariant
      | else-escaped+else-text-i-eq92+else-text-i-eq34 w ↦ step_plain c.args.text.now c.loop-i.i c.loop-i.escaped c.if-escaped.escaped _ lt w.if-escaped.false w.escaped-is w.if-text-i-eq34.false w.if-text-i-eq92.false c.loop-i.invariant
    ]
