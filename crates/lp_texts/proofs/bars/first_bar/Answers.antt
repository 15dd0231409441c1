use Rattle.std.proofs.Common.{sym, ap, ◌∙◌}
use Rattle.std.proofs.lemmas.Bool.{false≢true}
use Rattle.std.proofs.lemmas.List.{take_rest}
use Rattle.lp_texts.proofs.Parting.{is_front, parted_none, parted_single, parted_quote, no_bar_behind}
use Rattle.lp_texts.proofs.bars.first_bar.Goals as goal
use Rattle.lp_texts.proofs.bars.first_bar.Goals.{else-depth-eq0-via-then-depth-eq0+else-starts_with, else-depth-eq0-via-else-depth-eq0}

pub loop-at-init : goal.loop-at-init
loop-at-init c = parted_none c.args.text.now

pub loop-at-preserved-in-Single : goal.loop-at-preserved-in-Single
loop-at-preserved-in-Single c =
    let text = c.args.text.now in
    let at = c.loop-at.at in
    parted_single text at c.loop-at.depth c.depth_after-depth.result c.loop-at.invariant c.in-Single.ensures
    (λ none front.
    elim c.else-depth-eq0.branch [
      | else-depth-eq0-via-then-depth-eq0+else-starts_with w ↦ false≢true (sym w.if-starts_with.false ∙ w.starts_with.ensures.value ∙ ap is_front (take_rest text at) ∙ front)
      | else-depth-eq0-via-else-depth-eq0 w ↦ w.if-depth-eq0.false none
    ])
    c.depth_after-depth.ensures

pub loop-at-preserved : goal.loop-at-preserved
loop-at-preserved c =
    let quote = c.in-Quote.ensures in
    parted_quote c.args.text.now c.loop-at.at c.in-Quote.end c.loop-at.depth c.loop-at.invariant quote.0 quote.1 quote.2

pub returns-in-Unended : goal.returns-in-Unended
returns-in-Unended c = no_bar_behind c.args.text.now c.loop-at.at c.loop-at.depth c.loop-at.invariant c.in-Unended.ensures
