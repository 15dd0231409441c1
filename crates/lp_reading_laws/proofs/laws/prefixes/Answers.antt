use Rattle.lp_reading_laws.proofs.Holes.Words.{prefix_words}
use Rattle.lp_reading_laws.proofs.laws.prefixes.Goals as goal

pub returns : goal.returns
returns c = prefix_words
