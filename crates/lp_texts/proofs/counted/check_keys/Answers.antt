use Rattle.std.proofs.lemmas.Result.{err_from_is_err_and}
use Rattle.std.specs.BTreeMap.{keys}
use Rattle.lp_texts.proofs.Counting.{counted_more, counted_fails, counted_all}
use Rattle.lp_texts.proofs.counted.check_keys.Goals as goal

pub loop-thing-preserved : goal.loop-thing-preserved
loop-thing-preserved g c =
    counted_more c.args.kind g.R.Rule.answers (keys c.args.map.now) c.loop-thing.thing-iterator c.next.new.self c.in-Some.thing.now c.args.from c.loop-thing.number c.in_ok-number.number
    c.loop-thing.invariant c.in-Some.ensures.steps c.in_ok-number.ensures

pub returns-in_err-number : goal.returns-in_err-number
returns-in_err-number g c =
    let p = err_from_is_err_and c.from_residual.result c.from_residual.ensures.1 in
    rw (p.1, p.2)
    (counted_fails c.args.kind g.R.Rule.answers (keys c.args.map.now) c.loop-thing.thing-iterator c.next.new.self c.in-Some.thing.now c.args.from c.loop-thing.number c.in_err-number.field-0.0
    c.loop-thing.invariant c.in-Some.ensures.steps c.in_err-number.ensures)

pub returns : goal.returns
returns g c = counted_all c.args.kind g.R.Rule.answers (keys c.args.map.now) c.loop-thing.thing-iterator c.args.from c.loop-thing.number c.loop-thing.invariant c.in-None.ensures.steps.0
