use Rattle.std.proofs.Common.{◌-◌, arith, take, ap, ◌∙◌, length-drop}
use Rattle.std.proofs.lemmas.List.{drop_all}
use Rattle.lp_spelling.proofs.Counting.{whole_line}
use Rattle.lp_spelling.proofs.Cursors.{cut_line}
use Rattle.lp_spelling.proofs.cursor.line_from.Goals as goal

pub split_at-requires-2 : goal.split_at-requires-2
split_at-requires-2 c =
    cut_line c.args.text.now c.split_at.result.1.now c.args.start c.line_end-end.result c.utf8.text c.requires c.split_at.ensures.back c.line_end-end.ensures.place

pub returns-then-start-text : goal.returns-then-start-text
returns-then-start-text c = drop_all c.args.start c.args.text.now (omega arith)

pub returns : goal.returns
returns c =
    let text = c.args.text.now in
    let end = c.line_end-end.result in (
      c.split_at-2.ensures.front ∙ ap (λ x. take (end - c.args.start) x) c.split_at.ensures.back ∙ whole_line text c.args.start end c.line_end-end.ensures.place,
      omega (arith, length-drop c.args.start text),
    )
