use Rattle.lp_spelling.proofs.Fitting.{name_read, name_wrong}
use Rattle.lp_spelling.proofs.fill.is_name.Goals as goal

pub returns-in-Ok : goal.returns-in-Ok
returns-in-Ok c = name_read c.args.text.now c.in-Ok.name.now c.is_identifier.result c.in-Ok.ensures.cases.0 c.in-Ok.ensures.cases.1 c.is_identifier.ensures

pub returns-in-Err : goal.returns-in-Err
returns-in-Err c = name_wrong c.args.text.now c.in-Err.ensures.cases.0
