use Rattle.std.proofs.Common.{◌+◌, arith, sym, subst}
use Rattle.lp_texts.specs.Places.{IsPieceAt}
use Rattle.lp_texts.proofs.QuoteSteps.{found_at, last_mark, escaped_mark, single_mark, quoted_mark}
use Rattle.lp_texts.proofs.quotes.apostrophe_at.Goals as goal

pub returns-then-next-text : goal.returns-then-next-text
returns-then-next-text c = last_mark c.args.text.now c.args.at c.requires.inside c.requires.mark (omega arith)

pub returns-then-text-next-eq92 : goal.returns-then-text-next-eq92
returns-then-text-next-eq92 c =
    subst (IsPieceAt c.args.text.now c.args.at) (sym c.found_quote.ensures)
    (found_at c.args.text.now c.args.at (c.args.at + 1 + 1) _ _ (escaped_mark c.args.text.now c.args.at (omega arith) c.requires.mark c.if-text-next-eq92.true) (omega arith) c.closing_end.ensures)

pub returns-in-None : goal.returns-in-None
returns-in-None c = single_mark c.args.text.now c.args.at c.character_end.result (omega arith) c.requires.mark c.if-text-next-eq92.false c.character_end.ensures.value c.in-None.ensures

pub returns-in-Some : goal.returns-in-Some
returns-in-Some c = (
  quoted_mark c.args.text.now c.args.at c.character_end.result c.in-Some.end (omega arith) c.requires.mark c.if-text-next-eq92.false c.character_end.ensures.value c.in-Some.ensures.0,
  omega (arith, c.in-Some.ensures.1, c.character_end.ensures.behind),
  c.in-Some.ensures.2,
)
