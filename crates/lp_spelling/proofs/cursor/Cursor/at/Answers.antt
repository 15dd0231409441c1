use Rattle.std.proofs.Common.{ap, ◌∙◌, drop}
use Rattle.lp_spelling.proofs.cursor.Cursor.at.Goals as goal

pub returns : goal.returns
returns c = record {
  text = c.placed.ensures.text;
  rest = ap (λ i. drop i c.placed.result.text.now) c.placed.ensures.raw ∙ ap (λ t. drop c.args.place t) c.placed.ensures.text;
}
