use Rattle.std.proofs.Common.{◌-◌, arith, length, take, drop, ap, ◌∙◌}
use Rattle.std.specs.Str.{trim_start}
use Rattle.lp_spelling.proofs.Counting.{whole_line, shown_start, shown_boundary, shown_feeds}
use Rattle.std.proofs.lemmas.List.Folds.{length-prefix_len}
use Rattle.lp_spelling.specs.Counting.{is_text}
use Rattle.lp_spelling.proofs.Cursors.{cut_line}
use Rattle.lp_spelling.proofs.cursor.shown_at.Goals as goal

pub split_at-requires-2 : goal.split_at-requires-2
split_at-requires-2 c =
    cut_line c.args.text.now c.split_at.result.1.now c.args.from c.line_end-end.result c.utf8.text c.requires c.split_at.ensures.back c.line_end-end.ensures.place

pub returns : goal.returns
returns c =
    let text = c.args.text.now in
    let from = c.args.from in
    let end = c.line_end-end.result in
    let e = c.line_end-end.ensures.place in
    let whole = c.split_at-2.ensures.front ∙ ap (λ x. take (end - from) x) c.split_at.ensures.back ∙ whole_line text from end e in
    let trim = c.trim_start-line.ensures.value in
    let l = trim.1 ∙ ap (λ x. drop trim.0 x) whole in
    let size = ap length whole ∙ length-prefix_len is_text (drop from text) in
    record {
      line = c.trim_start-line.ensures.trim ∙ ap trim_start whole;
      start = shown_start text c.trim_start-line.result.now from trim.0 end e l;
      start_in = shown_boundary text c.trim_start-line.result.now from trim.0 end c.requires.0 c.utf8.text c.trim_start-line.utf8 e l;
      same_line = shown_feeds text c.trim_start-line.result.now from end (omega (arith, trim.4, size)) e;
      end = e;
      end_in = c.line_end-end.ensures.bound;
    }
