use Rattle.lp_reading_laws.proofs.FirstLines.Ends.{ends_seen, tails_seen}
use Rattle.lp_reading_laws.proofs.laws.ends.Goals as goal

pub returns-clause-own : goal.returns-clause-own
returns-clause-own c = ends_seen

pub returns-clause-tails : goal.returns-clause-tails
returns-clause-tails c = tails_seen
