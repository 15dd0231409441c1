use Rattle.std.proofs.Common.{sym, ap}
use Rattle.lp_types.specs.Left.{left}
use Rattle.lp_types.specs.Reading.{Read, seen_text}
use Rattle.lp_types.proofs.reader.Reader.seen_text.Goals as goal

pub returns : goal.returns
unfolding seen_text
returns c = ap (λ x. Read x (left c.args.self.now)) (sym c.text_next.ensures)
