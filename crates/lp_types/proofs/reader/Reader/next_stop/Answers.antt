use Rattle.std.proofs.Common.{sym, ap}
use Rattle.lp_types.specs.Left.{left}
use Rattle.lp_types.specs.Reading.{Read, next_stop}
use Rattle.lp_types.proofs.reader.Reader.next_stop.Goals as goal

pub returns : goal.returns
unfolding next_stop
returns c = ap (λ x. Read x (left c.args.self.now)) (sym c.stop.ensures)
