use Rattle.lp_reading_laws.proofs.Holes.Asking.{lines_tell_all}
use Rattle.lp_reading_laws.proofs.Holes.Law.{holes_found, equal_holes}
use Rattle.lp_reading_laws.proofs.laws.holes.Goals as goal

pub returns-clause-found : goal.returns-clause-found
returns-clause-found c = holes_found

pub returns-clause-told : goal.returns-clause-told
returns-clause-told c = lines_tell_all

pub returns-clause-equal : goal.returns-clause-equal
returns-clause-equal c = equal_holes
