use Rattle.lp_tok.proofs.Lefts.{drop_front, boundary_front}
use Rattle.lp_tok.proofs.rest.place_in.Goals as goal

pub returns-clause-rest : goal.returns-clause-rest
returns-clause-rest c = drop_front _ _ c.requires

pub returns-clause-boundary : goal.returns-clause-boundary
returns-clause-boundary c = boundary_front _ _ c.requires c.utf8.rest
