use Rattle.std.proofs.Common.{ap, ◌∙◌, drop}
use Rattle.std.proofs.lemmas.Str.{IsCharBoundary-start}
use Rattle.lp_spelling.proofs.cursor.Cursor.new.Goals as goal

pub placed-requires-clause-raw : goal.placed-requires-clause-raw
placed-requires-clause-raw c = IsCharBoundary-start c.args.text.now c.utf8.text

pub returns : goal.returns
returns c = record {
  text = c.placed.ensures.text;
  rest = ap (λ i. drop i c.placed.result.text.now) c.placed.ensures.raw ∙ c.placed.ensures.text;
}
