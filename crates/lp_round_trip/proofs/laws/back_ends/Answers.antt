use Rattle.lp_round_trip.proofs.BackEnds.{back_ends_agree}
use Rattle.lp_round_trip.proofs.laws.back_ends.Goals as goal

pub returns : goal.returns
returns c = back_ends_agree
