use Rattle.std.proofs.lemmas.Bool.{false≢true}
use Rattle.lp_texts.proofs.Outside.{walked_single, walked_quote, open_quoted}
use Rattle.lp_texts.proofs.pattern.is_outside.Goals as goal

pub loop-at-preserved-in-Single : goal.loop-at-preserved-in-Single
loop-at-preserved-in-Single c = walked_single c.args.text.now c.args.place c.loop-at.at c.loop-at.invariant c.loop-at-test.true c.in-Single.ensures

pub loop-at-preserved : goal.loop-at-preserved
loop-at-preserved c =
    let quote = c.in-Quote.ensures in
    walked_quote c.args.text.now c.args.place c.loop-at.at c.in-Quote.end c.loop-at.invariant c.loop-at-test.true quote.0 quote.2

pub returns-in-Unended : goal.returns-in-Unended
returns-in-Unended c = (
  λ met. absurd (false≢true met),
  λ there. absurd (open_quoted c.args.text.now c.args.place c.loop-at.at c.loop-at.invariant c.loop-at-test.true c.requires.within c.in-Unended.ensures there),
)
