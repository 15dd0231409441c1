use Rattle.std.proofs.Common.{arith, sym, ap, ◌∙◌}
use Rattle.std.proofs.lemmas.Str.{IsCharBoundary-end}
use Rattle.lp_spelling.specs.Counting.{is_skipped}
use Rattle.lp_spelling.proofs.Counting.{feeds_le, settling_start, settling_next, settling_found, settling_last, settling_over}
use Rattle.lp_spelling.proofs.cursor.settle.Goals as goal

pub loop-at-init : goal.loop-at-init
loop-at-init c = settling_start c.args.text.now c.args.from c.args.ended c.requires.from c.requires.ended

pub shown_at-shown-requires : goal.shown_at-shown-requires
shown_at-shown-requires c = c.loop-at.invariant.at_in

pub overflow_add-before : goal.overflow_add-before
overflow_add-before c = let a = feeds_le c.args.text.now c.loop-at.at in omega (arith, a, c.loop-at.invariant.ended)

pub returns-then-not-is_skipped : goal.returns-then-not-is_skipped
returns-then-not-is_skipped c =
    let text = c.args.text.now in
    let at = c.loop-at.at in
    let shown = c.shown_at-shown.ensures in
    let counts = ap is_skipped (sym shown.line) ∙ sym c.is_skipped.ensures ∙ c.if-not-is_skipped.true in
    record {
      start = settling_found text _ c.args.from at c.loop-at.before _ c.loop-at.invariant c.loop-at-test.true counts shown.line shown.start;
      start_in = shown.start_in;
      before = c.loop-at.invariant.ended ∙ sym shown.same_line;
    }

pub returns-then-shown-text : goal.returns-then-shown-text
returns-then-shown-text c =
    let text = c.args.text.now in
    let shown = c.shown_at-shown.ensures in
    let skipped = ap is_skipped (sym shown.line) ∙ sym c.is_skipped.ensures ∙ c.if-not-is_skipped.false in
    let last = settling_last text c.args.from c.loop-at.at c.loop-at.before c.loop-at.invariant c.loop-at-test.true (omega (arith, shown.end)) skipped in
    record { start = last.0; start_in = IsCharBoundary-end text; before = last.1 }

pub loop-at-preserved : goal.loop-at-preserved
loop-at-preserved c =
    let text = c.args.text.now in
    let shown = c.shown_at-shown.ensures in
    let skipped = ap is_skipped (sym shown.line) ∙ sym c.is_skipped.ensures ∙ c.if-not-is_skipped.false in
    settling_next text c.args.from c.loop-at.at c.loop-at.before _ c.utf8.text c.loop-at.invariant c.loop-at-test.true shown.end (omega arith) skipped

pub loop-at-smaller : goal.loop-at-smaller
loop-at-smaller c = omega (arith, c.shown_at-shown.ensures.end)

pub returns : goal.returns
returns c =
    let text = c.args.text.now in
    let over = settling_over text c.args.from c.loop-at.at c.loop-at.before c.loop-at.invariant c.loop-at-test.false in
    record { start = over.0; start_in = IsCharBoundary-end text; before = over.1 }
