use Rattle.std.proofs.Common.{arith}
use Rattle.lp_program.proofs.Printing.{count-more, count-none}
use Rattle.lp_program.proofs.print.own.tree_count.Goals as goal

pub loop-at-preserved : goal.loop-at-preserved
loop-at-preserved c =
    let more = count-more c.args.entries.now c.loop-at.at c.end_of-at.result c.loop-at-test.true c.end_of-at.ensures.place in
    record { within = c.end_of-at.ensures.within; fits = omega arith; counted = omega (arith, more) }

pub returns : goal.returns
returns c = let none = count-none c.args.entries.now c.loop-at.at c.loop-at-test.false in omega (arith, none)
