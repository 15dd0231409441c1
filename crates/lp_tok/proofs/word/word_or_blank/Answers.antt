use Rattle.lp_tok.proofs.Lefts.{follows_itself}
use Rattle.lp_tok.proofs.Found.{takes_after}
use Rattle.lp_tok.proofs.word.word_or_blank.Goals as goal

pub returns-then-c-eq114-clause-takes : goal.returns-then-c-eq114-clause-takes
returns-then-c-eq114-clause-takes c = takes_after c.args.start c.args.start c.args.next _ (follows_itself _) c.requires.follows c.requires.shorter c.r_piece.ensures.ends

pub returns-then-starts_word-clause-takes : goal.returns-then-starts_word-clause-takes
returns-then-starts_word-clause-takes c = takes_after c.args.start c.args.start c.args.next _ (follows_itself _) c.requires.follows c.requires.shorter c.word_piece.ensures.ends
