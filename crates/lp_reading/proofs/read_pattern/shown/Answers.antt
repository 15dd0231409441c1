use Rattle.std.proofs.Common.{ap, sym}
use Rattle.lp_types.proofs.Steps.{no_memory}
use Rattle.lp_types.specs.Left.{left}
use Rattle.lp_types.specs.Reading.{Read}
use Rattle.lp_reading.proofs.read_pattern.shown.Goals as goal

pub returns-in_err-parts : goal.returns-in_err-parts
returns-in_err-parts c = no_memory _ _ _ _ c.from_residual.ensures.1

pub returns : goal.returns
returns c = ap (λ parts. Read parts (left c.args.reader.now)) (sym c.in_ok-parts.ensures)
