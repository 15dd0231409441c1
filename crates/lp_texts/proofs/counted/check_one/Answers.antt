use Rattle.lp_texts.proofs.Counting.{counts_one}
use Rattle.lp_texts.proofs.counted.check_one.Goals as goal

pub returns : goal.returns
returns g c = counts_one c.args.kind g.R.Rule.answers c.args.thing.now c.args.number c.in_ok-fault.fault c.next.result c.in_ok-fault.ensures c.next.ensures
