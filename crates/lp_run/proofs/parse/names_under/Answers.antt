use Rattle.lp_view.specs.PartLists.{listed, parts_of, over}
use Rattle.lp_view.proofs.Over.{over_step, over_done}
use Rattle.lp_maker.specs.Slots.{no_names}
use Rattle.lp_run.specs.ParseMethod.{parameter_row}
use Rattle.lp_run.proofs.parse.names_under.Goals as goal

pub loop-row-preserved : goal.loop-row-preserved
loop-row-preserved c =
    let at = c.loop-row in
    let prefix = c.args.prefix.now in
    over_step (parameter_row prefix) at.names c.parameter_row.new.names (over (parameter_row prefix) no_names (parts_of (listed c.args.header))) c.next.result c.in-Some.row at.row-iterator c.next.new.self c.in-Some.is c.next.ensures.steps c.in_ok-parameter_row.ensures at.invariant

pub returns : goal.returns
returns c =
    let at = c.loop-row in
    let prefix = c.args.prefix.now in
    over_done (parameter_row prefix) at.names (over (parameter_row prefix) no_names (parts_of (listed c.args.header))) c.next.result at.row-iterator c.next.new.self c.in-None.is c.next.ensures.steps at.invariant
