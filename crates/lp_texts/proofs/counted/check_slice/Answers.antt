use Rattle.std.proofs.Common.{◌+◌, Ok, Err}
use Rattle.std.proofs.lemmas.Result.{err_from_is_err_and}
use Rattle.lp_texts.proofs.Counting.{counts_more, counts_front, counts_taken}
use Rattle.lp_texts.proofs.counted.check_slice.Goals as goal

pub loop-thing-preserved : goal.loop-thing-preserved
loop-thing-preserved g c =
    counts_more c.args.kind g.R.Rule.answers c.args.things.now c.loop-thing.thing-index c.thing-item.result c.args.from c.loop-thing.number (Ok c.in_ok-number.number)
    c.loop-thing-test.true c.thing-item.is c.loop-thing.invariant c.in_ok-number.ensures

pub returns-in_err-number : goal.returns-in_err-number
returns-in_err-number g c =
    let p = err_from_is_err_and c.from_residual.result c.from_residual.ensures.1 in
    let fault = c.in_err-number.field-0.0 in
    rw (p.1, p.2)
    (counts_front c.args.kind g.R.Rule.answers c.args.things.now (c.loop-thing.thing-index + 1) c.args.from fault
    (counts_more c.args.kind g.R.Rule.answers c.args.things.now c.loop-thing.thing-index c.thing-item.result c.args.from c.loop-thing.number (Err fault)
    c.loop-thing-test.true c.thing-item.is c.loop-thing.invariant c.in_err-number.ensures))

pub returns : goal.returns
returns g c = counts_taken c.args.kind g.R.Rule.answers c.args.things.now c.loop-thing.thing-index c.args.from c.loop-thing.number c.loop-thing-test.false c.loop-thing.invariant
