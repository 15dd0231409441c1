use Rattle.lp_reading_laws.proofs.Printed.Law.{printed_is_chosen, printed_is_one}
use Rattle.lp_reading_laws.proofs.laws.printed.Goals as goal

pub returns-clause-chosen : goal.returns-clause-chosen
returns-clause-chosen c = printed_is_chosen

pub returns-clause-one : goal.returns-clause-one
returns-clause-one c = printed_is_one
