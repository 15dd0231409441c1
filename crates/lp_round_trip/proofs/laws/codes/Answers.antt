use Rattle.lp_round_trip.proofs.Codes.{codes_are_told}
use Rattle.lp_round_trip.proofs.Printed.{bodies_suit_told}
use Rattle.lp_round_trip.proofs.laws.codes.Goals as goal

pub returns-clause-code : goal.returns-clause-code
returns-clause-code c = codes_are_told

pub returns-clause-bodies : goal.returns-clause-bodies
returns-clause-bodies c = bodies_suit_told
