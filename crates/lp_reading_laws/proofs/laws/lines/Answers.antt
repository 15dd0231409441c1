use Rattle.lp_reading_laws.proofs.Printing.Bytes.{line_back, line_over}
use Rattle.lp_reading_laws.proofs.laws.lines.Goals as goal

pub returns-clause-counting : goal.returns-clause-counting
returns-clause-counting c = line_back

pub returns-clause-others : goal.returns-clause-others
returns-clause-others c = line_over
