use Rattle.lp_valid.proofs.Words.{underscore}
use Rattle.lp_valid.proofs.names.begins_word.Goals as goal

pub returns-then-first-eq95-clause-begins : goal.returns-then-first-eq95-clause-begins
returns-then-first-eq95-clause-begins c = underscore c.args.first c.is_xid_continue.result c.if-first-eq95.true c.is_xid_continue.ensures.ascii
