use Rattle.lp_round_trip.proofs.Law.{emission_agrees_as_read, fitting_is_parted, emission_is_chosen, emission_is_read, emission_is_not_refused, emission_tells_bodies}
use Rattle.lp_round_trip.proofs.laws.emissions.Goals as goal

pub returns-clause-parted : goal.returns-clause-parted
returns-clause-parted c = fitting_is_parted

pub returns-clause-chosen : goal.returns-clause-chosen
returns-clause-chosen c = emission_is_chosen

pub returns-clause-read : goal.returns-clause-read
returns-clause-read c = emission_is_read

pub returns-clause-never : goal.returns-clause-never
returns-clause-never c = emission_is_not_refused

pub returns-clause-bodies : goal.returns-clause-bodies
returns-clause-bodies c = emission_tells_bodies

pub returns-clause-agrees : goal.returns-clause-agrees
returns-clause-agrees c = emission_agrees_as_read
