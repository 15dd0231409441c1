use Rattle.std.proofs.Common.{sym, ap}
use Rattle.lp_types.specs.Left.{left}
use Rattle.lp_types.specs.Reading.{Read, next_place}
use Rattle.lp_types.proofs.reader.Reader.next_place.Goals as goal

pub returns : goal.returns
unfolding next_place
returns c = ap (λ x. Read x (left c.args.self.now)) (sym c.place.ensures)
