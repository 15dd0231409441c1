use Rattle.lp_tok.proofs.Lefts.{next_behind, done_both}
use Rattle.lp_tok.proofs.rest.first_char.Goals as goal

pub returns-in-Some-split_char-clause-first : goal.returns-in-Some-split_char-clause-first
returns-in-Some-split_char-clause-first c = next_behind _ _ _ _ c.in-None.ensures.first c.in-Some-split_char.ensures.first

pub returns-in-None-split_char-clause-first : goal.returns-in-None-split_char-clause-first
returns-in-None-split_char-clause-first c = done_both _ _ c.in-None.ensures.first c.in-None-split_char.ensures.first
