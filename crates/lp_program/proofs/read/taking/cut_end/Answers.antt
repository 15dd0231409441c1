use Rattle.lp_program.proofs.Cuts.{fails_stops}
use Rattle.lp_program.proofs.read.taking.cut_end.Goals as goal

pub returns-in-Err : goal.returns-in-Err
returns-in-Err c = λ rest s. fails_stops c.args.text.now c.args.from c.in-Err.field-0 rest c.in-Err.ensures s
