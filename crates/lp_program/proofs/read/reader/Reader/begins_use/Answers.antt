use Rattle.std.proofs.Common.{arith}
use Rattle.std.specs.Bool.{Decides}
use Rattle.lp_program.specs.Begins.{Lines, IsUseFirst}
use Rattle.lp_program.proofs.Nearby.{first_same}
use Rattle.lp_program.proofs.Begun.{look_next}
use Rattle.lp_program.proofs.read.reader.Reader.begins_use.Goals as goal

pub returns-clause-exact : goal.returns-clause-exact
returns-clause-exact c = λ n m text like.
    first_same n c.args.cursor text (λ (lines : Lines). Decides c.is_use_first.result (IsUseFirst lines)) (λ l lines others h. h) (omega (arith, c.number.ensures, c.look_at.ensures.at, m)) like c.is_use_first.ensures

pub returns-clause-begun : goal.returns-clause-begun
returns-clause-begun c = look_next c.args.self.now.looked _ c.args.cursor (λ lt. omega (arith, c.look_at.ensures.new_is lt, c.number.ensures))
