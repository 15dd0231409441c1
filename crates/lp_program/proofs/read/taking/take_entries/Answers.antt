use Rattle.std.proofs.Common.{rules}
use Rattle.std.proofs.lemmas.Bool.{OnFalse_at}
use Rattle.lp_program.proofs.read.taking.take_entries.Goals as goal

pub returns-else-ended : goal.returns-else-ended
returns-else-ended c =
    let broken = OnFalse_at c.if-ended.false c.in_ok-numbers.ensures.broken in
    (search rules, rw c.raw.ensures.raw at (rw c.text.ensures at broken))
