use Rattle.lp_tok.proofs.Lefts.{follows_itself}
use Rattle.lp_tok.proofs.Found.{takes_after}
use Rattle.lp_tok.proofs.word.longer_piece.Goals as goal

pub returns-then-c-eq33-clause-takes : goal.returns-then-c-eq33-clause-takes
returns-then-c-eq33-clause-takes c = takes_after c.args.start c.args.next c.args.next _ c.requires.follows c.requires.follows c.requires.shorter c.bang_piece.ensures.ends

pub returns-then-c-eq58-clause-takes : goal.returns-then-c-eq58-clause-takes
returns-then-c-eq58-clause-takes c = takes_after c.args.start c.args.next c.args.next _ c.requires.follows c.requires.follows c.requires.shorter c.colon_piece.ensures.ends

pub returns-then-c-eq61-clause-takes : goal.returns-then-c-eq61-clause-takes
returns-then-c-eq61-clause-takes c = takes_after c.args.start c.args.start c.args.next _ (follows_itself _) c.requires.follows c.requires.shorter c.equals_piece.ensures.ends

pub returns-then-c-eq64-clause-takes : goal.returns-then-c-eq64-clause-takes
returns-then-c-eq64-clause-takes c = takes_after c.args.start c.args.start c.args.next _ (follows_itself _) c.requires.follows c.requires.shorter c.at_piece.ensures.ends

pub returns-then-c-eq46-clause-takes : goal.returns-then-c-eq46-clause-takes
returns-then-c-eq46-clause-takes c = takes_after c.args.start c.args.start c.args.next _ (follows_itself _) c.requires.follows c.requires.shorter c.pair_piece.ensures.ends

pub returns-then-c-eq126-clause-takes : goal.returns-then-c-eq126-clause-takes
returns-then-c-eq126-clause-takes c = takes_after c.args.start c.args.start c.args.next _ (follows_itself _) c.requires.follows c.requires.shorter c.pair_piece-then-c-eq126.ensures.ends

pub returns-then-c-eq45-clause-takes : goal.returns-then-c-eq45-clause-takes
returns-then-c-eq45-clause-takes c = takes_after c.args.start c.args.start c.args.next _ (follows_itself _) c.requires.follows c.requires.shorter c.pair_piece-then-c-eq45.ensures.ends
