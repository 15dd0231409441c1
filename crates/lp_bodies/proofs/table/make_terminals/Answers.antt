use Rattle.lp_view.specs.PartLists.{listed}
use Rattle.lp_view.proofs.Over.{over_step, over_done}
use Rattle.lp_maker.specs.Making.{making}
use Rattle.lp_bodies.specs.Tables.{with_terminal, with_terminals}
use Rattle.lp_bodies.proofs.table.make_terminals.Goals as goal

pub loop-row-preserved : goal.loop-row-preserved
loop-row-preserved c =
    let at = c.loop-row in
    over_step with_terminal (making at.maker) (making c.make_terminal.new.maker) (with_terminals (listed c.args.form) (making c.args.maker.now)) c.next.result c.in-Some.row at.row-iterator c.next.new.self c.in-Some.is c.next.ensures.steps c.in_ok-make_terminal.ensures at.invariant

pub returns : goal.returns
returns c =
    let at = c.loop-row in
    over_done with_terminal (making at.maker) (with_terminals (listed c.args.form) (making c.args.maker.now)) c.next.result at.row-iterator c.next.new.self c.in-None.is c.next.ensures.steps at.invariant
