use Rattle.lp_tok.proofs.Lefts.{follows_itself}
use Rattle.lp_tok.proofs.Found.{takes_after}
use Rattle.lp_tok.proofs.word.opened_piece.Goals as goal

pub returns-then-c-eq96-clause-takes : goal.returns-then-c-eq96-clause-takes
returns-then-c-eq96-clause-takes c = takes_after c.args.start c.args.start c.args.next _ (follows_itself _) c.requires.follows c.requires.shorter c.quoted_piece.ensures.ends

pub returns-then-c-eq34-clause-takes : goal.returns-then-c-eq34-clause-takes
returns-then-c-eq34-clause-takes c = takes_after c.args.start c.args.start c.args.next _ (follows_itself _) c.requires.follows c.requires.shorter c.quoted_piece-then-c-eq34.ensures.ends

pub returns-then-c-eq39-clause-takes : goal.returns-then-c-eq39-clause-takes
returns-then-c-eq39-clause-takes c = takes_after c.args.start c.args.start c.args.next _ (follows_itself _) c.requires.follows c.requires.shorter c.lifetime_piece.ensures.ends

pub returns-then-c-eq35-clause-takes : goal.returns-then-c-eq35-clause-takes
returns-then-c-eq35-clause-takes c = takes_after c.args.start c.args.start c.args.next _ (follows_itself _) c.requires.follows c.requires.shorter c.hash_piece.ensures.ends

pub returns-then-c-eq47-clause-takes : goal.returns-then-c-eq47-clause-takes
returns-then-c-eq47-clause-takes c = takes_after c.args.start c.args.start c.args.next _ (follows_itself _) c.requires.follows c.requires.shorter c.slash_piece.ensures.ends
