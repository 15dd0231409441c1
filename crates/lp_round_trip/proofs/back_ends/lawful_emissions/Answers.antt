use Rattle.lp_back_end_laws.proofs.Filled.Composition.{composition}
use Rattle.lp_round_trip.proofs.back_ends.lawful_emissions.Goals as goal

pub returns : goal.returns
returns g c = composition g.B.LawfulBackEnd.code (g.met.B.LawfulBackEnd.law).runs
