use Rattle.lp_view.specs.PartLists.{listed}
use Rattle.lp_view.proofs.Over.{over_step, over_done}
use Rattle.lp_run.specs.ParseMethod.{fields_of, field_row, fields}
use Rattle.lp_run.proofs.parse.fields_of.Goals as goal

pub loop-row-preserved : goal.loop-row-preserved
loop-row-preserved c =
    let at = c.loop-row in
    let names = c.args.names.now in
    over_step (field_row names) (fields_of at.numbers.items at.known) (fields_of c.field_row.new.numbers.items c.field_row.new.known) (fields names (listed c.args.form)) c.next.result c.in-Some.row at.row-iterator c.next.new.self c.in-Some.is c.next.ensures.steps c.in_ok-field_row.ensures at.invariant

pub returns : goal.returns
returns c =
    let at = c.loop-row in
    let names = c.args.names.now in
    over_done (field_row names) (fields_of at.numbers.items at.known) (fields names (listed c.args.form)) c.next.result at.row-iterator c.next.new.self c.in-None.is c.next.ensures.steps at.invariant
