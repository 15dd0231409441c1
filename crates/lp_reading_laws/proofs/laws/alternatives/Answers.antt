use Rattle.lp_reading_laws.proofs.FirstLines.Law.{alternatives_apart}
use Rattle.lp_reading_laws.proofs.FirstLines.Printed.{printed_begin}
use Rattle.lp_reading_laws.proofs.laws.alternatives.Goals as goal

pub returns-clause-apart : goal.returns-clause-apart
returns-clause-apart c = alternatives_apart

pub returns-clause-begun : goal.returns-clause-begun
returns-clause-begun c = printed_begin
