use Rattle.lp_tok.proofs.Unescaped.{escape_begun}
use Rattle.lp_tok.proofs.escapes.escape.Goals as goal

pub returns-then-c-eq120-clause-ends : goal.returns-then-c-eq120-clause-ends
returns-then-c-eq120-clause-ends c = escape_begun _ _ c.ascii_escape.result c.requires c.ascii_escape.ensures.ends
