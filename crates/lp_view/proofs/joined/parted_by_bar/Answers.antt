use Rattle.std.proofs.Common.{◌≡◌, ◌-◌, take, ap, ◌∙◌, arith}
use Rattle.lp_view.proofs.Bars.{bar_in, bar_ends, no_bar_in}
use Rattle.lp_view.proofs.joined.parted_by_bar.Goals as goal

pub range_from-requires : goal.range_from-requires
range_from-requires c = λ _. bar_ends c.args.text.now c.in-Some.end c.utf8.text (bar_in c.as_bytes.result.now c.args.text.now c.in-Some.end c.as_bytes.ensures.value c.in-Some.ensures)

pub returns-in-None-clause-before : goal.returns-in-None-clause-before
returns-in-None-clause-before c = (no_bar_in c.as_bytes.result.now c.args.text.now c.as_bytes.ensures.value c.in-None.ensures).0

pub returns-in-None-clause-behind : goal.returns-in-None-clause-behind
returns-in-None-clause-behind c = (no_bar_in c.as_bytes.result.now c.args.text.now c.as_bytes.ensures.value c.in-None.ensures).1

pub returns-in-Some-clause-before : goal.returns-in-Some-clause-before
returns-in-Some-clause-before c =
    let same : c.in-Some.end - 0 ≡ c.in-Some.end = omega arith in
    c.range.ensures.value ∙ ap (λ m. take m c.args.text.now) same ∙ (bar_in c.as_bytes.result.now c.args.text.now c.in-Some.end c.as_bytes.ensures.value c.in-Some.ensures).before

pub returns-in-Some-clause-behind : goal.returns-in-Some-clause-behind
returns-in-Some-clause-behind c = c.range_from.ensures.value ∙ (bar_in c.as_bytes.result.now c.args.text.now c.in-Some.end c.as_bytes.ensures.value c.in-Some.ensures).behind
