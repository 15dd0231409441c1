use Rattle.lp_tok.proofs.Lefts.{between_alone, ends_in_follows}
use Rattle.lp_tok.proofs.piece.before.Goals as goal

pub front-requires : goal.front-requires
front-requires c = ends_in_follows _ _ c.requires.follows

pub returns-clause-text : goal.returns-clause-text
returns-clause-text c = between_alone _ _ _ c.requires.follows c.requires.alone c.front.ensures.text
