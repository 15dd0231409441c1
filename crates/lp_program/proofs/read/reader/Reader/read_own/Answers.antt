use Rattle.std.proofs.Common.{arith}
use Rattle.lp_program.specs.Starting.Starts.{ended}
use Rattle.lp_program.proofs.Begun.{look_twice}
use Rattle.lp_program.proofs.read.reader.Reader.read_own.Goals as goal

-- the next line that counts was looked at, in front of what the step takes and behind it; or the line that doesn't fit
pub returns-in-Ok-clause-tells : goal.returns-in-Ok-clause-tells
returns-in-Ok-clause-tells c = λ n m text like.
    let tells = rw c.in-Ok.is at c.in_ok-next.ensures.tells in
    let first = c.look_at-in-Ok.ensures.looked in
    tells n (omega (arith, c.number-first.ensures, c.look_at.ensures.at, first, m)) (omega (arith, c.number.ensures, c.look_at-in-Ok.ensures.at, m)) text like

pub returns-in-Err-clause-tells : goal.returns-in-Err-clause-tells
returns-in-Err-clause-tells c = λ n m text like.
    let tells = rw c.in-Err.is at c.in_ok-next.ensures.tells in
    let first = c.look_at-in-Err-2.ensures.looked in
    tells n (omega (arith, c.number-first.ensures, c.look_at-in-Err.ensures.at, first, m)) (omega (arith, c.look_at-in-Err-2.ensures.at, m)) text like

pub returns-in-Ok-clause-begun : goal.returns-in-Ok-clause-begun
returns-in-Ok-clause-begun c =
    look_twice c.args.self.now.looked c.look_at.new.self.looked _ _ c.args.self.now.cursor _ c.look_at.ensures.looked c.look_at-in-Ok.ensures.looked (λ lt. omega (arith, c.look_at.ensures.new_is lt, c.number-first.ensures))
    (λ lt. omega (arith, c.look_at-in-Ok.ensures.new_is lt, c.number.ensures)) (λ text e others. ended _ text e) (rw c.in-Ok.is at c.in_ok-next.ensures.begun)

pub returns-in-Err-clause-begun : goal.returns-in-Err-clause-begun
returns-in-Err-clause-begun c =
    look_twice c.args.self.now.looked c.look_at-in-Err.new.self.looked _ _ c.args.self.now.cursor _ c.look_at-in-Err.ensures.looked c.look_at-in-Err-2.ensures.looked (λ lt. omega (arith, c.look_at-in-Err.ensures.new_is lt, c.number-first.ensures))
    c.look_at-in-Err-2.ensures.new_is (λ text e others. ended _ text e) (rw c.in-Err.is at c.in_ok-next.ensures.begun)
