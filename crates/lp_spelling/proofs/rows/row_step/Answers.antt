use Rattle.std.proofs.Common.{◌+◌, arith, drop, ap, sym, ◌∙◌, subst}
use Rattle.std.specs.Str.{IsCharBoundary}
use Rattle.std.proofs.lemmas.Bool.{eqb-true}
use Rattle.std.proofs.lemmas.Str.{IsCharBoundary-after_ascii}
use Rattle.lp_spelling.specs.TableReading.Front.{skip}
use Rattle.lp_spelling.proofs.Counting.{line_boundary}
use Rattle.lp_spelling.proofs.Tables.{front_none, front_feed, front_comment, front_ends, front_blank, entry_step}
use Rattle.lp_spelling.proofs.rows.row_step.Goals as goal

pub returns-then-at-bytes : goal.returns-then-at-bytes
returns-then-at-bytes c = front_none c.args.text.now c.args.at (omega (arith, c.as_bytes-bytes.ensures.len))

pub returns-then-ends_line : goal.returns-then-ends_line
returns-then-ends_line c =
    let text = c.args.text.now in
    let feed = sym c.ends_line.ensures ∙ c.if-ends_line.true in (
      front_feed text c.args.at (omega arith) (rw c.as_bytes-bytes.ensures.value at feed),
      IsCharBoundary-after_ascii text c.args.at c.utf8.text (omega arith) (omega (arith, eqb-true _ 10 (rw c.as_bytes-bytes.ensures.value at feed))),
    )

pub returns-then-stands_at : goal.returns-then-stands_at
returns-then-stands_at c =
    let text = c.args.text.now in
    let at = c.args.at in
    let same = c.as_bytes-bytes.ensures.value in
    let line = c.line_end.ensures.place in
    let found = front_comment text at (omega arith) (rw same at (sym c.ends_line.ensures ∙ c.if-ends_line.false)) (rw same at (sym c.stands_at.ensures ∙ c.if-stands_at.true)) in
    (found ∙ ap (λ i. skip (drop i text)) (sym line), subst (λ i. IsCharBoundary text i) (sym line) (line_boundary text at c.requires.0))

pub returns-then-ends_table : goal.returns-then-ends_table
returns-then-ends_table c =
    let same = c.as_bytes-bytes.ensures.value in
    front_ends c.args.text.now c.args.at (omega arith) (rw same at (sym c.ends_line.ensures ∙ c.if-ends_line.false)) (rw same at (sym c.stands_at.ensures ∙ c.if-stands_at.false))
    (rw same at (sym c.ends_table.ensures ∙ c.if-ends_table.true))

pub returns-then-blank-gt0 : goal.returns-then-blank-gt0
returns-then-blank-gt0 c =
    let text = c.args.text.now in
    let at = c.args.at in
    let same = c.as_bytes-bytes.ensures.value in
    let len = c.blank_len-blank.ensures.value in
    let found = front_blank text at (omega arith) (rw same at (sym c.ends_line.ensures ∙ c.if-ends_line.false)) (rw same at (sym c.stands_at.ensures ∙ c.if-stands_at.false))
    (rw same at (sym c.ends_table.ensures ∙ c.if-ends_table.false)) (omega (arith, len)) in
    (found ∙ ap (λ n. skip (drop (at + n) text)) (sym len), c.blank_len-blank.ensures.next)

pub returns : goal.returns
returns c =
    let text = c.args.text.now in
    let at = c.args.at in
    let same = c.as_bytes-bytes.ensures.value in
    entry_step text at c.entry_at.result (omega arith) (rw same at (sym c.ends_line.ensures ∙ c.if-ends_line.false)) (rw same at (sym c.stands_at.ensures ∙ c.if-stands_at.false))
    (rw same at (sym c.ends_table.ensures ∙ c.if-ends_table.false)) (omega (arith, c.blank_len-blank.ensures.value)) c.entry_at.ensures
