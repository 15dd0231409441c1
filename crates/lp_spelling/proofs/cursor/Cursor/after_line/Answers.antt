use Rattle.std.proofs.Common.{ap, ◌∙◌, drop}
use Rattle.lp_spelling.specs.Counting.{behind_line}
use Rattle.lp_spelling.proofs.cursor.Cursor.after_line.Goals as goal

pub returns : goal.returns
returns c =
    let s = c.args.self.now in
    record {
      text = c.placed.ensures.text;
      rest = ap (λ i. drop i c.placed.result.text.now) c.placed.ensures.raw ∙ ap (λ t. drop c.next_line-next.result t) c.placed.ensures.text
          ∙ c.next_line-next.ensures.rest ∙ ap behind_line s.start_is;
    }
