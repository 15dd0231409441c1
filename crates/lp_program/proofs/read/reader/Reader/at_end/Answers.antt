use Rattle.std.proofs.Common.{arith}
use Rattle.lp_program.proofs.Nearby.{over_same}
use Rattle.lp_program.proofs.Begun.{look_next}
use Rattle.lp_program.proofs.read.reader.Reader.at_end.Goals as goal

pub returns-clause-exact : goal.returns-clause-exact
returns-clause-exact c = λ n m text like.
    over_same n c.args.self.now.cursor text c.is_over.result c.is_over.ensures.none c.is_over.ensures.some (omega (arith, c.number.ensures, c.look_at.ensures.at, m)) like

pub returns-clause-begun : goal.returns-clause-begun
returns-clause-begun c = look_next c.args.self.now.looked _ c.args.self.now.cursor (λ lt. omega (arith, c.look_at.ensures.new_is lt, c.number.ensures))
