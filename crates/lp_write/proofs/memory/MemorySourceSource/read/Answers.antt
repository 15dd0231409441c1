use Rattle.std.proofs.Common.{◌≤◌, length, drop, arith, ap, Some}
use Rattle.lp_write.proofs.Sinking.{given-front}
use Rattle.lp_write.proofs.memory.MemorySourceSource.read.Goals as goal

pub returns-clause-gave : goal.returns-clause-gave
returns-clause-gave c =
    rw (c.copy_front-n.ensures.front, c.rest.ensures.value, c.as_slice.ensures.value)
    (let h : c.copy_front-n.result ≤ length (drop c.args.self.now.given c.args.self.now.bytes.items) =
    rw (c.rest.ensures.value, c.as_slice.ensures.value) at (let k : c.copy_front-n.result ≤ length c.rest.result.now = omega (arith, c.copy_front-n.ensures.count) in k)
    in ap (λ r. Some r) (given-front c.args.self.now.bytes.items c.args.buf.now c.args.self.now.given c.copy_front-n.result h))
